-- What every walk has that a call leaves: no more buffers than 63, and an offset that is none of FFFFh. Assumes nothing.
use Rattle.std.proofs.Common.{◌≡◌, ℕ, ◌<◌, ◌≤◌, false}
use Rattle.memory.specs.Address.{is_none}
use Rattle.device.specs.declared.Walk.{Walk}

-- a walk that goes on, behind so many bytes at least
pub record WalkGood (least : ℕ) (w : Walk) : Type 0 where
  pub next : w.next.0 < 65536
  pub used : w.used ≤ 63
  pub some : is_none w.next ≡ false
  pub enough : least ≤ w.filled
  pub most : w.filled ≤ 2048
