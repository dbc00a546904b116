-- The other unit's held frame: what a machine must have so that its work ends within twice the services that it can take. Assumes nothing.
use Rattle.std.specs.Prelude.{◌≡◌, Bool, true, false, List, [], ◌∷◌, ◌++◌, ℕ, ◌<◌}
use Rattle.progress.specs.Trace.{run, turns}

-- ---- the held frame: the other unit's work ends within twice the services that it can take, whatever the memory holds

pub record Holder : Type 1 where
  pub S : Type 0
  pub E : Type 0
  pub step : E → S → S
  -- the event is a turn, and not refused
  pub is_turn : E → Bool
  -- a frame is held; a turn now goes to the receive unit; it was the unit served at the last working turn
  pub held : S → Bool
  pub served : S → Bool
  pub last : S → Bool
  -- at most so many services until it is stored or counted; what is noted at an event (what became of a held frame, at its end)
  pub left : S → ℕ
  pub O : Type 0
  pub ends : E → S → List O
  -- which frame is held, and of which frame a note speaks
  pub F : Type 0
  pub frame : S → F
  pub of : O → F

module _ (H : Holder) where
  open H use {S, E, step, is_turn, held, served, last, left, O, ends, F, frame, of}

  pub data Went (e : E) (s : S) : Type 0 where
    ended : (o : O) → ends e s ≡ o ∷ [] → of o ≡ frame s → Went e s
    goes : ends e s ≡ [] → held (step e s) ≡ true → frame (step e s) ≡ frame s → left (step e s) < left s → last (step e s) ≡ true → Went e s

  pub record Stays (e : E) (s : S) : Type 0 where
    pub none : ends e s ≡ []
    pub holds : held (step e s) ≡ true
    pub same : frame (step e s) ≡ frame s
    pub count : left (step e s) ≡ left s

  -- what an event that may occur does with a held frame: a turn that goes to the receive unit, another turn, an event that is no turn
  pub record Laws (may : E → S → Type 0) : Type 0 where
    pub positive : (s : S) → 0 < left s
    pub serve : (e : E) (s : S) → may e s → held s ≡ true → is_turn e ≡ true → served s ≡ true → Went e s
    pub pass : (e : E) (s : S) → may e s → held s ≡ true → is_turn e ≡ true → served s ≡ false
        → Stays e s × (last s ≡ true) × (last (step e s) ≡ false)
    pub between : (e : E) (s : S) → may e s → held s ≡ true → is_turn e ≡ false → Stays e s × (last (step e s) ≡ last s)

  -- the frame x is held all along, and nothing is noted of it
  abbrev pub HeldAlong : F → List E → S → Type 0
  HeldAlong x [] s = (held s ≡ true) × (frame s ≡ x)
  HeldAlong x (e ∷ es) s = ((held s ≡ true) × (frame s ≡ x)) × (ends e s ≡ []) × HeldAlong x es (step e s)

  -- the frame x, held at the start, ends at one of the first n turns
  pub record Ends (n : ℕ) (x : F) (es : List E) (s : S) : Type 0 where
    pub before : List E
    pub event : E
    pub after : List E
    pub split : es ≡ before ++ (event ∷ after)
    pub soon : turns is_turn before < n
    pub holds : HeldAlong x before s
    pub turned : is_turn event ≡ true
    pub note : O
    pub noted : ends event (run step before s) ≡ note ∷ []
    pub own : of note ≡ x
