-- `code_actions::filter_of` meets its contract. Assumes nothing.
use Rattle.std.proofs.Common.{◌≡◌, ◌+◌, ◌<◌, sym, arith}
use Rattle.memory.specs.Memory.{byte_at, bytes_at}
use Rattle.hash.proofs.Faster.{before}
use Rattle.actions.specs.Actions.{filtering}
use Rattle.code_actions.proofs.Laws.{one_more_lem, none_yet, filter_more, remainder_ignored}
use Rattle.code_actions.proofs.filter_of.Goals as goal

pub returns-then-l-eq0 : goal.returns-then-l-eq0
unfolding filtering
returns-then-l-eq0 c = rw c.if-l-eq0.true

pub addresses-init : goal.addresses-init
addresses-init c = (omega arith, none_yet _ _ _)

pub loop-init : goal.loop-init
unfolding bytes_at
loop-init c = (omega arith, omega arith, omega arith, c.addresses.invariant.1, sym before)

pub loop-preserved : goal.loop-preserved
loop-preserved c =
    let m = c.args.memory.now in
    let j = c.loop.counter in
    let p = c.args.first.0 + c.addresses.i in
    let e : c.args.first.0 + c.loop.i ≡ p + j = omega (arith, c.loop.invariant.0) in
    let b : c.byte_behind.result ≡ byte_at m (p + j) = rw e at c.byte_behind.ensures in (
      omega arith,
      omega arith,
      omega arith,
      c.loop.invariant.3,
      rw (one_more_lem m p j, ← b) (c.take-register.ensures.1 (bytes_at m p j) c.loop.invariant.4),
    )

pub addresses-preserved : goal.addresses-preserved
addresses-preserved c =
    let m = c.args.memory.now in
    let a = c.args.first.0 in
    let l = c.args.l in
    let i = c.addresses.i in
    let all : c.loop.counter ≡ l = omega (arith, c.loop.invariant.2) in
    let e : c.loop.i ≡ i + l = omega (arith, c.loop.invariant.0) in
    let h = c.select.ensures.2 (bytes_at m (a + i) l) (rw all at c.loop.invariant.4) in
    (c.loop.invariant.1, rw e (filter_more l m a i c.select.result c.addresses.filter c.loop.invariant.3 c.select.ensures.1 h))

pub returns-after-addresses : goal.returns-after-addresses
returns-after-addresses c =
    let some : 0 < c.args.l = omega (arith, c.if-l-eq0.false) in
    let e : c.addresses.i + 0 ≡ c.args.count = omega (arith, c.addresses.invariant.0) in
    rw e at (remainder_ignored c.args.l c.args.memory.now c.args.first.0 c.addresses.i 0 c.addresses.filter c.addresses.invariant.1 some)

pub returns-then-i-count : goal.returns-then-i-count
returns-then-i-count c =
    let j = c.loop.counter in
    let e : c.addresses.i + j ≡ c.args.count = omega (arith, c.loop.invariant.0) in
    rw e at (remainder_ignored c.args.l c.args.memory.now c.args.first.0 c.addresses.i j c.addresses.filter c.loop.invariant.3 c.loop-test.true)
