-- The paper's number for each case of an enum, and the case for a number. Assumes nothing.
use Rattle.std.specs.Prelude.{cond, ℕ, eqb, Option, Some, None}
use Rattle.device.specs.declared.Action.{Action}
use Rattle.device.specs.declared.Action.TheVariants as action
use Rattle.device.specs.declared.Counter.{Counter}
use Rattle.device.specs.declared.Counter.TheVariants as counter
use Rattle.device.specs.declared.Reason.{Reason}
use Rattle.device.specs.declared.Reason.TheVariants as reason
use Rattle.device.specs.declared.Refusal.{Refusal}
use Rattle.device.specs.declared.Refusal.TheVariants as refusal
use Rattle.device.specs.declared.Verdict.{Verdict}
use Rattle.device.specs.declared.Verdict.TheVariants as verdict

-- 01, "Turns": CMD, bits 2-0 of the command word. 4 is Transmit, which is no `Action`
abbrev pub transmit : ℕ
transmit = 4

abbrev pub action_number : Action → ℕ
action_number action.Nop = 0
action_number action.IaSetup = 1
action_number action.Configure = 2
action_number action.McSetup = 3
action_number action.Tdr = 5
action_number action.Dump = 6
action_number action.Diagnose = 7

unfoldable pub action_of : ℕ → Action
action_of n =
    cond (eqb n 0) action.Nop
    (cond (eqb n 1) action.IaSetup
    (cond (eqb n 2) action.Configure
    (cond (eqb n 3) action.McSetup
    (cond (eqb n 5) action.Tdr
    (cond (eqb n 6) action.Dump action.Diagnose)))))

-- 01, "What the desk is buying": 0 good, 1 CRC, any other value misaligned
abbrev pub verdict_number : Verdict → ℕ
verdict_number verdict.Good = 0
verdict_number verdict.Crc = 1
verdict_number verdict.Misaligned = 2

unfoldable pub verdict_of : ℕ → Verdict
verdict_of n = cond (eqb n 0) verdict.Good (cond (eqb n 1) verdict.Crc verdict.Misaligned)

-- 01, "Calls, lent areas, refusals", as 02, Wish 3, mends it: "21 device record, 22 holding area, 23 outgoing area"
abbrev pub refusal_number : Refusal → ℕ
refusal_number refusal.Memory = 1
refusal_number refusal.Record = 21
refusal_number refusal.Holding = 22
refusal_number refusal.Outgoing = 23
refusal_number refusal.Overlong = 3
refusal_number refusal.Foreign = 4

-- the number of an answer, 0 if not refused
abbrev pub refusal_or_0 : Option Refusal → ℕ
refusal_or_0 None = 0
refusal_or_0 (Some r) = refusal_number r

-- 02, Wish 3: "too few bytes, no match, unit Idle, unit Suspended, or bad and not saved", from 1 on
abbrev pub reason_number : Reason → ℕ
reason_number reason.TooFew = 1
reason_number reason.NoMatch = 2
reason_number reason.UnitIdle = 3
reason_number reason.UnitSuspended = 4
reason_number reason.Bad = 5

-- 0 if not dropped
abbrev pub reason_or_0 : Option Reason → ℕ
reason_or_0 None = 0
reason_or_0 (Some r) = reason_number r

-- 01, "The SCB": +8 CRCERRS, +10 ALNERRS, +12 RSCERRS, +14 OVRNERRS
abbrev pub counter_place : Counter → ℕ
counter_place counter.Crc = 8
counter_place counter.Alignment = 10
counter_place counter.Resources = 12
counter_place counter.Overruns = 14
