-- The SCB's status: 01, "The SCB". Assumes nothing.
use Rattle.memory.specs.Memory.{Write, word_to}
use Rattle.memory.specs.Address.{place}
use Rattle.scb.specs.Words.{status_word, scb_status_at}
use Rattle.device.specs.State.{cu_state, ru_state}
use Rattle.device.specs.declared.Units.{Units}

-- status is kept in the record, and so written
unfoldable pub status_to : Units → Write
status_to u = word_to (place u.base u.scb scb_status_at) (status_word u.events (cu_state u.cu) (ru_state u.ru))
