-- Ten fields that are written one behind the other are a block, and so are ten that are read.
use Rattle.std.proofs.Common.{◌≡◌, ℕ, ◌-◌, List, [], ◌∷◌, ◌++◌, length, replicate, ap, ◌∙◌, append_assoc, arith}
use Rattle.std.specs.List.{concat}
use Rattle.std.proofs.lemmas.List.{append-nil, length-append, nil_from_length}

regroup : (a b c d e f g h i z : List ℕ) → ((((((((a ++ b) ++ c) ++ d) ++ e) ++ f) ++ g) ++ h) ++ i) ++ z ≡ concat (a ∷ b ∷ c ∷ d ∷ e ∷ f ∷ g ∷ h ∷ i ∷ z ∷ [])
regroup a b c d e f g h i z = simp (append_assoc, append-nil)

pub all_written : (a b c d e f g h i : List ℕ) (s0 s1 s2 s3 s4 s5 s6 s7 s8 s9 block : List ℕ)
    → s0 ≡ [] → s1 ≡ s0 ++ a → s2 ≡ s1 ++ b → s3 ≡ s2 ++ c → s4 ≡ s3 ++ d → s5 ≡ s4 ++ e → s6 ≡ s5 ++ f → s7 ≡ s6 ++ g → s8 ≡ s7 ++ h → s9 ≡ s8 ++ i
    → length a ≡ 8 → length b ≡ 4 → length c ≡ 4 → length d ≡ 8 → length e ≡ 8 → length f ≡ 8 → length g ≡ 16 → length h ≡ 16 → length i ≡ 256
    → block ≡ s9 ++ replicate (4096 - length s9) 0 → block ≡ concat (a ∷ b ∷ c ∷ d ∷ e ∷ f ∷ g ∷ h ∷ i ∷ replicate 3768 0 ∷ [])
all_written a b c d e f g h i s0 s1 s2 s3 s4 s5 s6 s7 s8 s9 block e0 e1 e2 e3 e4 e5 e6 e7 e8 e9 la lb lc ld le lf lg lh li eq =
    let t1 : s1 ≡ a = e1 ∙ ap (λ (x : List ℕ). x ++ a) e0 in
    let t2 : s2 ≡ a ++ b = e2 ∙ ap (λ (x : List ℕ). x ++ b) t1 in
    let t3 : s3 ≡ (a ++ b) ++ c = e3 ∙ ap (λ (x : List ℕ). x ++ c) t2 in
    let t4 : s4 ≡ ((a ++ b) ++ c) ++ d = e4 ∙ ap (λ (x : List ℕ). x ++ d) t3 in
    let t5 : s5 ≡ (((a ++ b) ++ c) ++ d) ++ e = e5 ∙ ap (λ (x : List ℕ). x ++ e) t4 in
    let t6 : s6 ≡ ((((a ++ b) ++ c) ++ d) ++ e) ++ f = e6 ∙ ap (λ (x : List ℕ). x ++ f) t5 in
    let t7 : s7 ≡ (((((a ++ b) ++ c) ++ d) ++ e) ++ f) ++ g = e7 ∙ ap (λ (x : List ℕ). x ++ g) t6 in
    let t8 : s8 ≡ ((((((a ++ b) ++ c) ++ d) ++ e) ++ f) ++ g) ++ h = e8 ∙ ap (λ (x : List ℕ). x ++ h) t7 in
    let t9 : s9 ≡ (((((((a ++ b) ++ c) ++ d) ++ e) ++ f) ++ g) ++ h) ++ i = e9 ∙ ap (λ (x : List ℕ). x ++ i) t8 in
    let len : length s9 ≡ 328 = ap length t9 ∙ simp length-append (omega (arith, la, lb, lc, ld, le, lf, lg, lh, li)) in
    let left : 4096 - length s9 ≡ 3768 = omega (arith, len) in
    let zeros : replicate {A = ℕ} (4096 - length s9) 0 ≡ replicate {A = ℕ} 3768 0 = ap (λ (n : ℕ). replicate {A = ℕ} n 0) left in
    eq ∙ ap (λ (x : List ℕ). s9 ++ x) zeros ∙ ap (λ (x : List ℕ). x ++ replicate {A = ℕ} 3768 0) t9 ∙ regroup a b c d e f g h i (replicate {A = ℕ} 3768 0)

pub all_read : (a b c d e f g h i z : List ℕ) (s0 s1 s2 s3 s4 s5 s6 s7 s8 s9 s10 : List ℕ)
    → s0 ≡ a ++ s1 → s1 ≡ b ++ s2 → s2 ≡ c ++ s3 → s3 ≡ d ++ s4 → s4 ≡ e ++ s5 → s5 ≡ f ++ s6 → s6 ≡ g ++ s7 → s7 ≡ h ++ s8 → s8 ≡ i ++ s9 → s9 ≡ z ++ s10 → length s10 ≡ 0
    → s0 ≡ concat (a ∷ b ∷ c ∷ d ∷ e ∷ f ∷ g ∷ h ∷ i ∷ z ∷ [])
all_read a b c d e f g h i z s0 s1 s2 s3 s4 s5 s6 s7 s8 s9 s10 e0 e1 e2 e3 e4 e5 e6 e7 e8 e9 none =
    let t9 : s9 ≡ concat (z ∷ []) = e9 ∙ ap (λ (x : List ℕ). z ++ x) (nil_from_length s10 none) in
    let t8 : s8 ≡ concat (i ∷ z ∷ []) = e8 ∙ ap (λ (x : List ℕ). i ++ x) t9 in
    let t7 : s7 ≡ concat (h ∷ i ∷ z ∷ []) = e7 ∙ ap (λ (x : List ℕ). h ++ x) t8 in
    let t6 : s6 ≡ concat (g ∷ h ∷ i ∷ z ∷ []) = e6 ∙ ap (λ (x : List ℕ). g ++ x) t7 in
    let t5 : s5 ≡ concat (f ∷ g ∷ h ∷ i ∷ z ∷ []) = e5 ∙ ap (λ (x : List ℕ). f ++ x) t6 in
    let t4 : s4 ≡ concat (e ∷ f ∷ g ∷ h ∷ i ∷ z ∷ []) = e4 ∙ ap (λ (x : List ℕ). e ++ x) t5 in
    let t3 : s3 ≡ concat (d ∷ e ∷ f ∷ g ∷ h ∷ i ∷ z ∷ []) = e3 ∙ ap (λ (x : List ℕ). d ++ x) t4 in
    let t2 : s2 ≡ concat (c ∷ d ∷ e ∷ f ∷ g ∷ h ∷ i ∷ z ∷ []) = e2 ∙ ap (λ (x : List ℕ). c ++ x) t3 in
    let t1 : s1 ≡ concat (b ∷ c ∷ d ∷ e ∷ f ∷ g ∷ h ∷ i ∷ z ∷ []) = e1 ∙ ap (λ (x : List ℕ). b ++ x) t2 in
    e0 ∙ ap (λ (x : List ℕ). a ++ x) t1
