-- Two units take turns over one memory. What the one (the command unit) does is what it does alone on an undisturbed memory, if nothing else
-- writes into the bytes that it uses; and it is served at least at every second turn. Here is what a machine must have for it. Assumes nothing.
use Rattle.std.specs.Prelude.{◌≡◌, Bool, true, false, List, [], ◌∷◌, ◌++◌, map, ℕ, ◌+◌, ◌*◌, ◌≤◌, ◌<◌, length}
use Rattle.memory.specs.Memory.{Write, apply}
use Rattle.progress.specs.Trace.{run, bit, turns}
use Rattle.progress.specs.Same.{In, Same}

-- ---- the machine

pub record Machine : Type 1 where
  -- states of the whole (record, memory, areas), events (calls, and what the host does between them) of a trace, the command unit's own part of a state
  pub S : Type 0
  pub E : Type 0
  pub P : Type 0
  -- a line report, and what a service of the command unit is on the record for (begun, done with its result)
  pub R : Type 0
  pub B : Type 0
  pub step : E → S → S
  -- the event is a turn, and not refused
  pub is_turn : E → Bool
  pub report : E → R
  pub view : S → P
  pub mem : S → List ℕ
  -- the command unit has work; a turn now goes to it; it was the unit served at the last working turn
  pub active : P → Bool
  pub served : S → Bool
  pub last : S → Bool
  -- one service of the command unit: its part afterwards, the results that it writes, what is noted, the addresses that it reads
  pub work : P → List ℕ → R → P
  pub results : P → List ℕ → R → List Write
  pub note : P → List ℕ → R → List B
  pub reads : P → List ℕ → List ℕ

module _ (M : Machine) where
  open M use {S, E, P, R, B, step, is_turn, report, view, mem, active, served, last, work, results, note, reads}

  -- a service reads its addresses alone
  pub record Alike (v : P) (m q : List ℕ) (r : R) : Type 0 where
    pub part : work v m r ≡ work v q r
    pub writes : results v m r ≡ results v q r
    pub notes : note v m r ≡ note v q r

  pub record Served (e : E) (s : S) : Type 0 where
    pub part : view (step e s) ≡ work (view s) (mem s) (report e)
    pub turned : last (step e s) ≡ true
    pub busy : active (view s) ≡ true

  pub record Passed (e : E) (s : S) : Type 0 where
    pub part : view (step e s) ≡ view s
    pub waits : active (view s) ≡ true → (last s ≡ true) × (last (step e s) ≡ false)

  pub record Between (e : E) (s : S) : Type 0 where
    pub part : view (step e s) ≡ view s
    -- which unit was served last stays
    pub order : last (step e s) ≡ last s

  -- may says which events may occur
  pub record Laws (may : E → S → Type 0) : Type 0 where
    pub local : (v : P) (m q : List ℕ) (r : R) → Same (reads v q) m q → Alike v m q r
    pub serve : (e : E) (s : S) → is_turn e ≡ true → served s ≡ true → Served e s
    pub pass : (e : E) (s : S) → is_turn e ≡ true → served s ≡ false → Passed e s
    -- all that is asked of an event that may occur and is no turn
    pub between : (e : E) (s : S) → may e s → is_turn e ≡ false → Between e s

  -- ---- a trace

  -- x at a turn that goes to the command unit, y at every other event
  abbrev pub at_service : {A : Type 0} → Bool → Bool → A → A → A
  at_service true true x y = x
  at_service true false x y = y
  at_service false b x y = y

  -- the reports given with the command unit's turns; what was noted at them
  abbrev pub reports : List E → S → List R
  reports [] s = []
  reports (e ∷ es) s = at_service (is_turn e) (served s) (report e ∷ reports es (step e s)) (reports es (step e s))

  abbrev pub log : List E → S → List B
  log [] s = []
  log (e ∷ es) s = at_service (is_turn e) (served s) (note (view s) (mem s) (report e)) [] ++ log es (step e s)

  -- the results that the command in work writes at an event
  abbrev pub own : E → S → List Write
  own e s = at_service (is_turn e) (served s) (results (view s) (mem s) (report e)) []

  -- at each event of the trace the bytes at L change by the results of the command in work and by nothing else
  abbrev pub Undisturbed : List ℕ → List E → S → Type 0
  Undisturbed L [] s = Unit {0}
  Undisturbed L (e ∷ es) s = Same L (mem (step e s)) (apply (own e s) (mem s)) × Undisturbed L es (step e s)

  -- ---- the command unit alone, on a memory that nothing else writes

  abbrev pub part' : List R → P → List ℕ → P
  part' [] v q = v
  part' (r ∷ rs) v q = part' rs (work v q r) (apply (results v q r) q)

  abbrev pub mem' : List R → P → List ℕ → List ℕ
  mem' [] v q = q
  mem' (r ∷ rs) v q = mem' rs (work v q r) (apply (results v q r) q)

  abbrev pub log' : List R → P → List ℕ → List B
  log' [] v q = []
  log' (r ∷ rs) v q = note v q r ++ log' rs (work v q r) (apply (results v q r) q)

  -- at each of these services the command unit had work
  abbrev pub Live : List R → P → List ℕ → Type 0
  Live [] v q = Unit {0}
  Live (r ∷ rs) v q = (active v ≡ true) × Live rs (work v q r) (apply (results v q r) q)

  -- L holds every address that the command unit, alone, reads at any service, whatever the reports
  abbrev pub Covers : List ℕ → P → List ℕ → Type 0
  Covers L v q = (rs : List R) → Live rs v q → active (part' rs v q) ≡ true → (a : ℕ) → In a (reads (part' rs v q) (mem' rs v q)) → In a L

  -- what a trace comes to, beside the command unit alone
  pub record Alone (L : List ℕ) (es : List E) (s : S) (v : P) (q : List ℕ) : Type 0 where
    pub part : view (run step es s) ≡ part' (reports es s) v q
    pub bytes : Same L (mem (run step es s)) (mem' (reports es s) v q)
    pub notes : log es s ≡ log' (reports es s) v q
    -- every service came while it had work
    pub live : Live (reports es s) v q
    -- it has work only if it had work before, and then it was served at least at every second turn
    pub was : active (view (run step es s)) ≡ true → active v ≡ true
    pub pace : active (view (run step es s)) ≡ true → turns is_turn es ≤ 2 * length (reports es s) + bit (last s)

-- ---- in list order, once each, and how soon

module _ (M : Machine) where
  open M use {S, E, P, R, B, step, is_turn, report, view, mem, active, served, last, work, results, note, reads}

  -- what the definitions must say of one service of the command unit alone, with the blocks bs still to do
  pub record Listing : Type 1 where
    -- what a note says of a command, and what is still to be said
    pub T : Type 0
    pub tag : B → T
    pub Inv : List ℕ → P → List ℕ → Type 0
    pub todo : List ℕ → P → List T
    pub rank : List ℕ → P → ℕ
    pub next : (bs : List ℕ) (v : P) (q : List ℕ) (r : R) → Inv bs v q → active v ≡ true
        → (cs : List ℕ) × Inv cs (work v q r) (apply (results v q r) q)
        × (map tag (note v q r) ++ todo cs (work v q r) ≡ todo bs v) × (rank cs (work v q r) < rank bs v)
    pub some : (bs : List ℕ) (v : P) (q : List ℕ) → Inv bs v q → active v ≡ true → 0 < rank bs v
    pub over : (bs : List ℕ) (v : P) (q : List ℕ) → Inv bs v q → active v ≡ false → todo bs v ≡ []

  module _ (O : Listing) where
    open O use {T, tag, Inv, todo, rank, next, some, over}

    abbrev pub Ordered : List ℕ → List R → P → List ℕ → List ℕ → Type 0
    Ordered bs rs v q cs =
        Inv cs (part' M rs v q) (mem' M rs v q)
        × (map tag (log' M rs v q) ++ todo cs (part' M rs v q) ≡ todo bs v)
        × (length rs + rank cs (part' M rs v q) ≤ rank bs v)

    -- the whole: the list is done, each command once and in order, and everything at L is as the command unit alone leaves it
    pub record Finished (L : List ℕ) (bs : List ℕ) (es : List E) (s : S) : Type 0 where
      pub stopped : active (view (run step es s)) ≡ false
      pub order : map tag (log M es s) ≡ todo bs (view s)
      pub alone : Alone M L es s (view s) (mem s)
