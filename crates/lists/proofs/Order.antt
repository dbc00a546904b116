-- A command list, once started, is done in list order, each command once, within 132 turns a command: demand 3, first half. Assumes nothing.
use mathlib.Core.Path.{◌≡◌, refl, sym, ap, ◌∙◌, subst}
use mathlib.Core.Bool.{true, false, false≢true}
use mathlib.Core.List.{List, [], ◌∷◌}
use Prim.Native.Nat.{ℕ, suc, ◌*◌, ◌≤◌, ◌<◌}
use native.Mathlib.Omega.{arith}
use lib.ListN.{length}
use Rattle.memory.specs.Memory.{apply}
use Rattle.memory.specs.declared.RealAddress.{RealAddress}
use Rattle.memory.specs.declared.Offset.{Offset}
use Rattle.memory.proofs.Laws.{length_apply}
use Rattle.device.specs.State.{cu_state, is_active}
use Rattle.device.specs.declared.Cu.{Cu}
use Rattle.device.specs.declared.Cu.TheVariants as cu
use Rattle.actions.specs.Setup.{Setup, setup_of}
use Rattle.command.specs.Part.{Part, part_of}
use Rattle.command.specs.Service.{service}
use Rattle.chip.specs.World.{World}
use Rattle.traces.specs.Event.{Event, step}
use Rattle.progress.specs.Machine.{Laws, Listing, Covers, Live, Alone, log, log', reports, part', mem', Finished}
use Rattle.progress.specs.Trace.{run}
use Rattle.progress.specs.Same.{Same}
use Rattle.progress.proofs.Same.{Sub, sub-nil, in_left, same_refl, same_trans, same_part, apart_writes}
use Rattle.progress.proofs.Machine.{finish, ordered}
use Rattle.lists.specs.Uses.{block, uses, setup_after, list_setup, list_bytes}
use Rattle.lists.specs.Unit.{Tag, tag, note_by, reads_by, machine}
use Rattle.lists.specs.Done.{Started, each_once, bytes_of, setup_left, Apart, AllComplete, enough, Premises, Done}
use Rattle.lists.proofs.Seen.{all_seen, frames_along_lem}
use Rattle.lists.proofs.Blocks.{sub_refl, sub-append}
use Rattle.lists.proofs.Stands.{todo, rank, status_bytes, Misses, Now, Lies, Stands, Leads, part_with}
use Rattle.lists.proofs.Begins.{at_begin, begin_reads_lem}
use Rattle.lists.proofs.Chain.{at_buffer, buffer_reads}
use Rattle.lists.proofs.Acts.{at_acting, at_ending, at_failing, acting_reads, end_reads_lem}
use Rattle.lists.proofs.Complete.{service_complete, complete_append, complete_same, status_append}

module _ (base : RealAddress) (m₀ : List ℕ) (big : 8192 ≤ length m₀) where
  -- ---- one service, whatever the unit is at

  next_at : (unit : Cu) (s : Setup) (out : List ℕ) (c : ℕ) (cs q : List ℕ) (r : ℕ) → Now base m₀ unit s c q → Lies base m₀ s c cs q
      → Leads base m₀ (c ∷ cs) (part_with base unit s out) q r
  next_at cu.Idle s out c cs q r now l = absurd now
  next_at (cu.Suspended o) s out c cs q r now l = absurd now
  next_at (cu.Waiting o) s out c cs q r now l =
      subst (λ (x : Offset). Leads base m₀ (c ∷ cs) (part_with base (cu.Waiting x) s out) q r) (sym now.0)
      (at_begin base m₀ s out c cs q r now.1 l)
  next_at (cu.Acting b a) s out c cs q r now l = at_acting base m₀ big s out c cs q r b a now.0 now.1 l
  next_at (cu.Sending b w) s out c cs q r now l = at_buffer base m₀ s out c cs q r b w now.0 now.1 l
  next_at (cu.Ending b n) s out c cs q r now l = at_ending base m₀ big s out c cs q r b n now l
  next_at (cu.Failing b) s out c cs q r now l = at_failing base m₀ big s out c cs q r b now l

  -- a part is its base, its unit and the rest
  whole : (p : Part) → p.base ≡ base → part_with base p.unit p.setup p.outgoing ≡ p
  whole p e = rw (← e)

  next : (bs : List ℕ) (p : Part) (q : List ℕ) (r : ℕ) → Stands base m₀ bs p q → is_active (cu_state p.unit) ≡ true → Leads base m₀ bs p q r
  next [] p q r i a = absurd (false≢true (sym i ∙ a))
  next (c ∷ cs) p q r i a =
      subst (λ (x : Part). Leads base m₀ (c ∷ cs) x q r) (whole p i.0) (next_at p.unit p.setup p.outgoing c cs q r i.1 i.2)

  some_at : (unit : Cu) (s : Setup) (c : ℕ) (n : ℕ) (q : List ℕ) → Now base m₀ unit s c q → 0 < rank unit (suc n)
  some_at cu.Idle s c n q now = absurd now
  some_at (cu.Suspended o) s c n q now = absurd now
  some_at (cu.Waiting o) s c n q now = omega arith
  some_at (cu.Acting b a) s c n q now = omega arith
  some_at (cu.Sending b w) s c n q now = omega (arith, now.1.1)
  some_at (cu.Ending b k) s c n q now = omega arith
  some_at (cu.Failing b) s c n q now = omega arith

  some : (bs : List ℕ) (p : Part) (q : List ℕ) → Stands base m₀ bs p q → is_active (cu_state p.unit) ≡ true → 0 < rank p.unit (length bs)
  some [] p q i a = absurd (false≢true (sym i ∙ a))
  some (c ∷ cs) p q i a = some_at p.unit p.setup c (length cs) q i.1

  -- a unit that has a command in work is Active
  busy : (unit : Cu) (s : Setup) (c : ℕ) (q : List ℕ) → Now base m₀ unit s c q → is_active (cu_state unit) ≡ true
  busy cu.Idle s c q now = absurd now
  busy (cu.Suspended o) s c q now = absurd now
  busy (cu.Waiting o) s c q now = refl
  busy (cu.Acting b a) s c q now = refl
  busy (cu.Sending b w) s c q now = refl
  busy (cu.Ending b k) s c q now = refl
  busy (cu.Failing b) s c q now = refl

  over : (bs : List ℕ) (p : Part) (q : List ℕ) → Stands base m₀ bs p q → is_active (cu_state p.unit) ≡ false → todo base m₀ p.unit bs ≡ []
  over [] p q i a = refl
  over (c ∷ cs) p q i a = absurd (false≢true (sym a ∙ busy p.unit p.setup c q i.1))

  -- out of Active no block is left to do
  none_left : (bs : List ℕ) (p : Part) (q : List ℕ) → Stands base m₀ bs p q → is_active (cu_state p.unit) ≡ false
      → list_setup base p.setup m₀ bs ≡ p.setup
  none_left [] p q i a = refl
  none_left (c ∷ cs) p q i a = absurd (false≢true (sym a ∙ busy p.unit p.setup c q i.1))

  -- ---- what is done stays done

  -- bytes that no block to do uses stay as they are
  stays : (rs bs : List ℕ) (p : Part) (q F : List ℕ) → Stands base m₀ bs p q → Live machine rs p q → length q ≡ length m₀
      → Misses (length m₀) (list_bytes base p.setup m₀ bs) F → Same F (mem' machine rs p q) q
  stays [] bs p q F i l n h = same_refl F q
  stays (r ∷ rs) bs p q F i l n h =
      let k = next bs p q r i l.0 in
      let ws = (service p q r).writes in
      same_trans
      (stays rs k.left (service p q r).part (apply ws q) F k.stands l.1 (length_apply ws q ∙ n) (λ x y j. h x y (k.part x j)))
      (apart_writes F ws q (λ x y j t e. h y x (k.writes y t) j (rw n at (sym e))))

  -- the status words of the commands done are bytes of the list
  words_in : (rs bs : List ℕ) (p : Part) (q : List ℕ) → Stands base m₀ bs p q → Live machine rs p q
      → Sub (status_bytes base (log' machine rs p q)) (list_bytes base p.setup m₀ bs)
  words_in [] bs p q i l = sub-nil (list_bytes base p.setup m₀ bs)
  words_in (r ∷ rs) bs p q i l =
      let k = next bs p q r i l.0 in
      let ns = note_by p.unit p q r in
      rw (status_append base ns (log' machine rs (service p q r).part (apply (service p q r).writes q)))
      (sub-append (status_bytes base ns) k.words
      (λ x j. k.part x (words_in rs k.left (service p q r).part (apply (service p q r).writes q) k.stands l.1 x j)))

  -- a unit that has work is at this base
  at_base : (bs : List ℕ) (p : Part) (q : List ℕ) → Stands base m₀ bs p q → is_active (cu_state p.unit) ≡ true → p.base ≡ base
  at_base [] p q i a = absurd (false≢true (sym i ∙ a))
  at_base (c ∷ cs) p q i a = i.0

  -- and each is complete at the end, when the unit alone has done them
  complete_alone : (rs bs : List ℕ) (p : Part) (q : List ℕ) → Stands base m₀ bs p q → Live machine rs p q → length q ≡ length m₀
      → AllComplete base (mem' machine rs p q) (log' machine rs p q)
  complete_alone [] bs p q i l n = tt
  complete_alone (r ∷ rs) bs p q i l n =
      let k = next bs p q r i l.0 in
      let v = (service p q r).part in
      let q₁ = apply (service p q r).writes q in
      let n₁ : length q₁ ≡ length m₀ = length_apply (service p q r).writes q ∙ n in
      let ns = note_by p.unit p q r in
      let now : AllComplete base q₁ ns = rw (← at_base bs p q i l.0) (service_complete p q r (omega (arith, big, n))) in
      complete_append base (mem' machine rs v q₁) ns (log' machine rs v q₁)
      (complete_same base (mem' machine rs v q₁) q₁ ns (stays rs k.left v q₁ (status_bytes base ns) k.stands l.1 n₁ k.missed) now)
      (complete_alone rs k.left v q₁ k.stands l.1 n₁)

  -- ---- what is read

  -- what a service reads is among the bytes of the command in work
  reads_at : (unit : Cu) (s : Setup) (out : List ℕ) (c : ℕ) (q : List ℕ) → Now base m₀ unit s c q
      → Sub (reads_by unit (part_with base unit s out) q) (uses base s m₀ c)
  reads_at cu.Idle s out c q now = absurd now
  reads_at (cu.Suspended o) s out c q now = absurd now
  reads_at (cu.Waiting o) s out c q now = rw now.0 (begin_reads_lem base m₀ (cu.Waiting (block c)) s out c q now.1)
  reads_at (cu.Acting b a) s out c q now = acting_reads base m₀ big (cu.Acting b a) s out c q b a now.0 now.1
  reads_at (cu.Sending b w) s out c q now = buffer_reads base m₀ (cu.Sending b w) s out c q b w now.0 now.1
  reads_at (cu.Ending b k) s out c q now = end_reads_lem base m₀ big (cu.Ending b k) s out c q b now
  reads_at (cu.Failing b) s out c q now = end_reads_lem base m₀ big (cu.Failing b) s out c q b now

  covers_at : (L bs : List ℕ) (p : Part) (q : List ℕ) → Stands base m₀ bs p q → Sub (list_bytes base p.setup m₀ bs) L
      → is_active (cu_state p.unit) ≡ true → Sub (reads_by p.unit p q) L
  covers_at L [] p q i u a = absurd (false≢true (sym i ∙ a))
  covers_at L (c ∷ cs) p q i u a =
      subst (λ (x : Part). Sub (reads_by x.unit x q) L) (whole p i.0)
      (λ y k. u y (in_left (list_bytes base (setup_after base p.setup m₀ c) m₀ cs) (reads_at p.unit p.setup p.outgoing c q i.1 y k)))

  -- L are the bytes of the whole list, and x the setup that it leaves: under the unit's own setup the bytes of the blocks to do are among L, and
  -- they leave x
  module _ (L : List ℕ) (x : Setup) where
    Inv : List ℕ → Part → List ℕ → Type 0
    Inv bs p q = Stands base m₀ bs p q × Sub (list_bytes base p.setup m₀ bs) L × (list_setup base p.setup m₀ bs ≡ x)

    listing : Listing machine
    unfolding Inv
    listing =
        record {
          T = Tag;
          tag = tag;
          Inv = Inv;
          todo = λ bs p. todo base m₀ p.unit bs;
          rank = λ bs p. rank p.unit (length bs);
          next = λ bs p q r i a.
              let n = next bs p q r i.0 a in
              (n.left, (n.stands, (λ y j. i.1 y (n.part y j)), n.setup ∙ i.2), n.noted, n.fewer);
          some = λ bs p q i a. some bs p q i.0 a;
          over = λ bs p q i a. over bs p q i.0 a;
        }

-- ---- the theorem

-- a list just started: its first block is the one before which the unit waits
stands_start : (bs : List ℕ) (w : World) → Started bs w → Apart bs w
    → Stands w.device.units.base w.memory bs (part_of w.device w.outgoing) w.memory
stands_start [] w st nc = absurd st.listed
stands_start (c ∷ cs) w st nc =
    let base = w.device.units.base in
    let s = setup_of w.device in
    let m = w.memory in (
      refl,
      rw st.unit (refl, same_refl (uses base s m c) m),
      record { listed = st.listed; apart = nc; later = same_refl (list_bytes base (setup_after base s m c) m cs) m },
    )

start_todo : (bs : List ℕ) (w : World) → Started bs w
    → todo w.device.units.base w.memory w.device.units.cu bs ≡ each_once w.device.units.base w.memory bs
start_todo [] w st = refl
start_todo (c ∷ cs) w st = rw st.unit

start_rank : (bs : List ℕ) (w : World) → Started bs w → rank w.device.units.cu (length bs) ≡ 66 * length bs
start_rank bs w st = rw st.unit

-- the bytes of the list hold all that its commands read when they run alone
covers_list : (bs : List ℕ) (w : World) → 8192 ≤ length w.memory
    → Stands w.device.units.base w.memory bs (part_of w.device w.outgoing) w.memory
    → Covers machine (bytes_of w bs) (part_of w.device w.outgoing) w.memory
unfolding listing Inv
covers_list bs w big st rs live act =
    let base = w.device.units.base in
    let p = part_of w.device w.outgoing in
    let L = bytes_of w bs in
    let o = ordered machine (listing base w.memory big L (setup_left w bs)) rs bs p w.memory (st, sub_refl L, refl) live in
    covers_at base w.memory big L o.0 (part' machine rs p w.memory) (mem' machine rs p w.memory)
    o.1.0.0 o.1.0.1 act

list_finished : (May : Event → World → Type 0) → Laws machine May → (bs : List ℕ) (es : List Event) (w : World) → Started bs w → (pr : Premises May enough bs es w)
    → Finished machine (listing w.device.units.base w.memory pr.size (bytes_of w bs) (setup_left w bs)) (bytes_of w bs) bs es w
unfolding listing Inv
list_finished May laws bs es w st pr =
    let h = stands_start bs w st pr.apart in
    let L = bytes_of w bs in
    finish machine (listing w.device.units.base w.memory pr.size L (setup_left w bs)) May laws L bs es w (h, sub_refl L, refl)
    (covers_list bs w pr.size h) pr.events pr.intact (omega (arith, start_rank bs w st, pr.turns))

-- what the unit alone has done is done so in the whole
list_complete : (bs : List ℕ) (es : List Event) (w : World) → 8192 ≤ length w.memory
    → Stands w.device.units.base w.memory bs (part_of w.device w.outgoing) w.memory
    → Alone machine (bytes_of w bs) es w (part_of w.device w.outgoing) w.memory
    → AllComplete w.device.units.base (run step es w).memory (log machine es w)
list_complete bs es w big st al =
    let base = w.device.units.base in
    let p = part_of w.device w.outgoing in
    let rs = reports machine es w in
    rw al.notes
    (complete_same base (run step es w).memory (mem' machine rs p w.memory) (log' machine rs p w.memory)
    (same_part (words_in base w.memory big rs bs p w.memory st al.live) al.bytes)
    (complete_alone base w.memory big rs bs p w.memory st al.live refl))

-- Let a list of the blocks bs be started, the last the first that ends or suspends it; let no result be a byte of a later command; let the
-- events of a trace be such as may occur, and nothing write into the list, as it stands at the start, but each command's own results. Once
-- 132 times as many turns have come as there are blocks, all are done, once each, in list order, exactly as the command unit alone does them
-- on the memory at the start, and nothing else is begun. May is any choice of events under which the units keep to the laws of taking turns
pub list_done : (May : Event → World → Type 0) → Laws machine May → (bs : List ℕ) (es : List Event) (w : World) → Started bs w → Premises May enough bs es w → Done bs es w
unfolding listing
list_done May laws bs es w st pr =
    let f = list_finished May laws bs es w st pr in
    record {
      order = f.order ∙ start_todo bs w st;
      notes = f.alone.notes;
      complete = list_complete bs es w pr.size (stands_start bs w st pr.apart) f.alone;
      told = frames_along_lem es w;
      seen = all_seen es w;
      part = f.alone.part;
      bytes = f.alone.bytes;
      stopped = f.stopped;
    }

-- and the setup that then stands is the one by which the bytes of the list are said, after its last command
pub setup_done : (May : Event → World → Type 0) → Laws machine May → (bs : List ℕ) (es : List Event) (w : World) → Started bs w → Premises May enough bs es w
    → setup_of (run step es w).device ≡ setup_left w bs
unfolding listing Inv
setup_done May laws bs es w st pr =
    let f = list_finished May laws bs es w st pr in
    let base = w.device.units.base in
    let m = w.memory in
    let p = part_of w.device w.outgoing in
    let rs = reports machine es w in
    let o =
    ordered machine (listing base m pr.size (bytes_of w bs) (setup_left w bs)) rs bs p m
    (stands_start bs w st pr.apart, sub_refl (bytes_of w bs), refl) f.alone.live in
    let v : Part = part' machine rs p m in
    let a : is_active (cu_state v.unit) ≡ false = subst (λ (x : Part). is_active (cu_state x.unit) ≡ false) f.alone.part f.stopped in
    ap (λ (x : Part). x.setup) f.alone.part
    ∙ sym (none_left base m pr.size o.0 v (mem' machine rs p m) o.1.0.0 a)
    ∙ o.1.0.2
