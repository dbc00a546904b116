-- The two streams of the code are those of the definitions. Assumes nothing.
use Rattle.printing.specs.Streams as printing
use Rattle.stretches.specs.declared.Stream.{Stream}
use Rattle.stretches.specs.declared.Stream.TheVariants.{Output, Errors}

abbrev pub stream_said : Stream → printing.Stream
stream_said Output = printing.output
stream_said Errors = printing.errors
