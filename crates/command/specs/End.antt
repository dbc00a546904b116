-- End: 01, "Turns": do the action, write status; I raises CX; EL makes CU Idle, else S or a waiting SUSPEND makes it Suspended; the link, read
-- now, is next. Assumes nothing.
use Rattle.std.specs.Prelude.{Bool, true, false, not, ◌||◌, List, [], ◌∷◌, ◌++◌, ℕ}
use Rattle.memory.specs.Memory.{Write, word_to, apply}
use Rattle.memory.specs.Address.{place, offset_at}
use Rattle.memory.specs.declared.Offset.{Offset}
use Rattle.memory.specs.declared.RealAddress.{RealAddress}
use Rattle.scb.specs.declared.Events.{Events}
use Rattle.device.specs.State.{cu_state, is_active}
use Rattle.device.specs.declared.Begun.{Begun}
use Rattle.device.specs.declared.Cu.{Cu}
use Rattle.device.specs.declared.Cu.TheVariants as cu
use Rattle.command.specs.Part.{Part, Service}
use Rattle.actions.specs.Block.{block_status_at, block_link_at}
use Rattle.actions.specs.Actions.{Acted}

-- EL wins over S
abbrev pub after_end : (el suspends : Bool) → Offset → Cu
after_end true suspends link = cu.Idle
after_end false true link = cu.Suspended link
after_end false false link = cu.Waiting link

-- I raises CX; leaving Active raises CNA
abbrev pub raised_by : Begun → Cu → Events
raised_by b next = record { cx = b.interrupt; fr = false; cna = not (is_active (cu_state next)); rnr = false }

-- the status goes to the block, after the action's writes
abbrev pub status_to : RealAddress → Begun → ℕ → Write
status_to base b status = word_to (place base b.block block_status_at) status

-- the link, read now, is next: m is memory as the results left it
unfoldable pub next_after : RealAddress → Begun → List ℕ → Cu
next_after base b m = after_end b.el (b.suspend || b.pausing) (offset_at m (place base b.block block_link_at))

-- do the action, write status; I raises CX; EL makes CU Idle, else S or a waiting SUSPEND makes it Suspended; the link, read now, is next
unfoldable pub end : Part → Begun → Acted → List ℕ → Service
end p b a m =
    let results = a.writes ++ (status_to p.base b a.status ∷ []) in
    let next = next_after p.base b (apply results m) in
    record {
      part = record { base = p.base; unit = next; setup = a.setup; outgoing = p.outgoing };
      writes = results;
      raised = raised_by b next;
      length = a.length;
    }
