-- Halving a range of n, a look each time: after p looks 2^p times what is left is at most n.
use Rattle.std.proofs.Common.{◌≡◌, ℕ, ◌+◌, ◌*◌, ◌^◌, ◌<◌, ◌≤◌, sym, ap, subst, ◌∙◌, arith}
use Rattle.std.proofs.Math.Nat.{mul-le-mul_left, pow-le-pow_right}
use Rattle.std.proofs.lemmas.Grind.{pow_more}

abbrev pub Halved : ℕ → ℕ → ℕ → Type 0
Halved n looks left = (2 ^ looks * left ≤ n) × (2 ^ looks ≤ 2 * n + 1)

half : (n e left now : ℕ) → e * left ≤ n → now < left → 2 * now ≤ left → (e * 2 * now ≤ n) × (e * 2 ≤ 2 * n + 1)
half n e left now so_far less halves =
    let all = mul-le-mul_left e halves in
    let some = mul-le-mul_left e (let one : 1 ≤ left = omega arith in one) in
    let same : e * 2 * now ≡ e * (2 * now) = omega arith in
    (omega (arith, all, same, so_far), omega (arith, some, so_far))

pub halved : (n looks more left now : ℕ) → more ≡ looks + 1 → Halved n looks left → now < left → 2 * now ≤ left → Halved n more now
halved n looks more left now one so_far less halves =
    let e : 2 ^ more ≡ 2 ^ looks * 2 = ap (λ k. 2 ^ k) one ∙ pow_more 2 looks in
    let h = half n (2 ^ looks) left now so_far.0 less halves in
    (subst (λ k. k * now ≤ n) (sym e) h.0, subst (λ k. k ≤ 2 * n + 1) (sym e) h.1)

pub not_halved : (n looks left : ℕ) → looks ≡ 0 → left ≡ n → Halved n looks left
not_halved n looks left none all = subst (λ k. Halved n k left) (sym none) (omega (arith, all), omega arith)

pub fewer : (looks less n : ℕ) → less ≤ looks → 2 ^ looks ≤ n → 2 ^ less ≤ n
fewer looks less n few bound = let p = pow-le-pow_right {n = 2} (omega arith) few in omega (arith, p, bound)

pub once_more : (looks less n : ℕ) → less ≤ looks + 1 → 2 * 2 ^ looks ≤ n → 2 ^ less ≤ n
once_more looks less n few bound =
    let e : 2 ^ (looks + 1) ≡ 2 ^ looks * 2 = pow_more 2 looks in
    fewer (looks + 1) less n few (omega (arith, e, bound))
