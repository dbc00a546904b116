-- One trace after another. Assumes nothing.
use mathlib.Core.List.{List, [], ◌∷◌, ◌++◌}
use Rattle.progress.specs.Trace.{run, AllMay}

pub may_append : {S E : Type 0} (may : E → S → Type 0) (f : E → S → S) (es fs : List E) (s : S) → AllMay may f es s
    → AllMay may f fs (run f es s) → AllMay may f (es ++ fs) s
may_append may f [] fs s a b = b
may_append may f (e ∷ es) fs s a b = (a.0, may_append may f es fs (f e s) a.1 b)

-- what may occur along a trace may along its beginning
pub may_before : {S E : Type 0} (may : E → S → Type 0) (f : E → S → S) (xs ys : List E) (s : S) → AllMay may f (xs ++ ys) s → AllMay may f xs s
may_before may f [] ys s m = tt
may_before may f (x ∷ xs) ys s m = (m.0, may_before may f xs ys (f x s) m.1)
