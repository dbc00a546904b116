-- The session as the code holds it, and what the code does, by the definitions of a run. Assumes nothing.
use Rattle.std.specs.Prelude.{◌≡◌, ℕ, List}
use Rattle.std.specs.Borrow.{MutBor}
use Rattle.board.specs.declared.Areas.{Areas}
use Rattle.scene.specs.Scene as scene
use Rattle.session.specs.declared.Held.{Held}
use Rattle.session.specs.Run.{Session, State, state_of, start}

abbrev pub session_in : Held → Session
session_in h =
    record {
      board = h.scene.board;
      at = h.scene.page.at;
      line = h.session.line;
      reader = h.session.reader;
      stopped = h.session.stopped;
    }

abbrev pub state_in : Held → State
state_in h =
    state_of (session_in h) h.scene.areas.memory.now h.scene.areas.holding.now h.scene.areas.outgoing.now h.bytes.now h.scene.page.out.now

-- each slice is the borrow that it was
abbrev pub Stays : Held → Held → Type 0
Stays h k = scene.Stays h.scene k.scene × (k.bytes.ghost_name ≡ h.bytes.ghost_name)

abbrev pub Runs : (State → State) → Held → Held → Type 0
Runs says h k = Stays h k × (state_in k ≡ says (state_in h))

-- a session begins with the slices that it is lent
abbrev pub Begins : Areas → MutBor (List ℕ) → MutBor (List ℕ) → Held → Type 0
Begins p by out h =
    (h.scene.areas ≡ p) × (h.bytes ≡ by) × (h.scene.page.out ≡ out) × (session_in h ≡ start)
