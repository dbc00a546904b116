-- An attention of a world: 01, "First attention after reset" and "The SCB". Assumes nothing.
use Rattle.attention.specs.Attention.{attention}
use Rattle.chip.specs.World.{World, Ran, writing}

unfoldable pub attention_of : World → Ran
attention_of w =
    let a = attention w.device w.memory in writing w a.writes a.outcome
