-- Demand 3, second half, on the calls: with what every call keeps, nothing is left to ask; and where runs of turns are among them. Assumes nothing.
use mathlib.Core.Path.{◌≡◌, refl}
use Prim.Native.Nat.{ℕ, ◌<◌}
use native.Mathlib.Omega.{arith}
use Rattle.closure.proofs.Closed.{closed}
use Rattle.progress.specs.Trace.{turns}
use Rattle.traces.specs.Driven.{is_taken, unrolled, AllFair}
use Rattle.traces.specs.Event.{WhileHeld}
use Rattle.closure.proofs.Driven.{LetsTurns, spread}
use Rattle.held.specs.OnRecords.{Settled, Within, WithinByRuns}
use Rattle.held.proofs.Exact.{frame}
use Rattle.held.proofs.OnRecords.{Closed}
use Rattle.held.proofs.OnRecords as on_records
use Rattle.held.proofs.Lending as lending

stays : Closed
stays c w f range wide m h out =
    let s = closed c w f (record { range = range; wide = wide; memory = m; holding = h; outgoing = out }) in (s.range, s.wide)

-- demand 3, on the calls: a held frame is stored or counted within 132 turns that are not refused
pub held_frame : Within 132
held_frame = on_records.held_frame stays

-- the same where the turns are taken in calls or in runs
held_turns : LetsTurns WhileHeld
held_turns = record { still = λ a. refl; turns = λ report w. refl }

pub runs_held_frame : WithinByRuns 132
runs_held_frame a f ds h p n =
    let s = spread WhileHeld held_turns ds a p in held_frame a f (unrolled ds) h s.fair (omega (arith, n, s.counts))

-- and with any smaller number that is false
pub exact : (n : ℕ) → n < 132 → Within n → ⊥
exact = lending.exact stays

-- the premises can be met, among refusals and with another memory and other areas at each call
pub restless_asked : AllFair WhileHeld (lending.restless 132 lending.device) lending.standing × (turns is_taken (lending.restless 132 lending.device) ≡ 132)
restless_asked = lending.restless_asked stays

pub met_restless : Settled 132 frame (lending.restless 132 lending.device) lending.standing
met_restless = lending.met_restless stays
