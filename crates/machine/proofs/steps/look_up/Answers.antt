use Rattle.std.proofs.Common.{◌≡◌, ℕ, suc, ◌+◌, ◌-◌, ap, ◌∙◌, arith}
use Rattle.stack.specs.Live.{live}
use Rattle.machine.specs.Flat.{seek}
use Rattle.machine.specs.Seen.{found, bindings}
use Rattle.machine.proofs.Acts.{seek_empty, seek_spent, seek_past, seek_here, seek_on}
use Rattle.machine.proofs.steps.look_up.Goals as goal

pub loop-init : goal.loop-init
loop-init g c =
    let m : c.args.scope - 0 ≡ c.args.scope = omega arith in
    ap (λ (x : ℕ). seek x (bindings g.K.Number.value (live c.args.bindings.now)) c.args.function c.args.scope) m

pub returns-then-place-eq0 : goal.returns-then-place-eq0
returns-then-place-eq0 g c =
    seek_empty g.K.Number.value _ c.args.function c.loop.place (bindings g.K.Number.value (live c.args.bindings.now)) c.if-place-eq0.true
    ∙ c.loop.invariant

pub returns-in_err-binding : goal.returns-in_err-binding
returns-in_err-binding g c =
    let m : c.args.scope - c.loop.counter ≡ suc (c.args.scope - (c.loop.counter + 1)) = omega arith in
    let k : c.loop.place ≡ suc (c.loop.place - 1) = omega arith in
    ap (found g.K.Number.value) c.from_residual.ensures
    ∙ seek_past g.K.Number.value _ _ c.args.function c.loop.place _ (live c.args.bindings.now) m k c.in_err-binding.ensures
    ∙ c.loop.invariant

pub returns-then-binding-function : goal.returns-then-binding-function
returns-then-binding-function g c =
    let m : c.args.scope - c.loop.counter ≡ suc (c.args.scope - (c.loop.counter + 1)) = omega arith in
    let k : c.loop.place ≡ suc (c.loop.place - 1) = omega arith in
    seek_here g.K.Number.value _ _ c.args.function c.loop.place _ (live c.args.bindings.now) c.in_ok-binding.binding m k
    c.in_ok-binding.ensures c.if-binding-function.true
    ∙ c.loop.invariant

pub loop-preserved : goal.loop-preserved
loop-preserved g c =
    let m : c.args.scope - c.loop.counter ≡ suc (c.args.scope - (c.loop.counter + 1)) = omega arith in
    let k : c.loop.place ≡ suc (c.loop.place - 1) = omega arith in
    seek_on g.K.Number.value _ _ c.args.function c.loop.place _ (live c.args.bindings.now) c.in_ok-binding.binding m k
    c.in_ok-binding.ensures c.if-binding-function.false
    ∙ c.loop.invariant

pub returns : goal.returns
returns g c =
    let m : c.args.scope - c.loop.counter ≡ 0 = omega arith in
    seek_spent g.K.Number.value _ c.args.function c.loop.place (bindings g.K.Number.value (live c.args.bindings.now)) m
    ∙ c.loop.invariant
