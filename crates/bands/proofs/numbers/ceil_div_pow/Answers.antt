use Rattle.std.proofs.Common.{◌≡◌, ◌*◌, ◌%◌, ◌^◌, sym, ap, ◌∙◌, arith, pow_pos}
use Rattle.std.proofs.lemmas.Nat.{one_shl}
use Rattle.rect.specs.Numbers.{ceil}
use Rattle.rect.proofs.Ceil.{ceil_code}
use Rattle.bands.proofs.Powers.{ceil_far}
use Rattle.bands.proofs.numbers.ceil_div_pow.Goals as goal

pub returns-in-Some : goal.returns-in-Some
returns-in-Some c =
    let k = c.args.k in
    let h = c.in-Some.ensures.0 in
    let e : c.in-Some.power ≡ 2 ^ k =
    c.in-Some.ensures.1 ∙ ap (λ n. (1 * 2 ^ n) % 2 ^ 32) c.from.ensures ∙ one_shl k 32 (omega arith) in
    c.div_ceil.ensures ∙ ceil_code c.args.a c.in-Some.power (omega (arith, pow_pos k)) ∙ ap (ceil c.args.a) e

pub returns-in-None : goal.returns-in-None
returns-in-None c =
    c.min.ensures ∙ sym (ceil_far c.args.a c.args.k (omega arith) (omega (arith, c.in-None.ensures)))
