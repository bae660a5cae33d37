-- The order of prefixes of one length is the order of words: a word that begins with an earlier prefix comes first, whatever follows;
-- after the same prefix the rest decides. And the order of words tells two words apart.
-- Assumes nothing.
use Prim.Native.Nat.{ℕ, ◌≤◌}
use native.Mathlib.Nat.{eq-or-lt_of_le}
use native.Mathlib.Omega.{arith}
use mathlib.Core.Path.{◌≡◌, refl, sym, ◌∙◌, ap, ap₂, subst}
use mathlib.Core.Logic.{⊎_elim}
use mathlib.Core.Logic.◌⊎◌.{inl, inr}
use mathlib.Core.List.{List, [], ◌∷◌}
use Rattle.kat.specs.Word.{Word, end, at, numbers}
use Rattle.kat.specs.Ring.{Prefix, nothing, then, onto}
use Rattle.verdicts.specs.Standings.{Letter}
use Rattle.verdicts.specs.Verdicts.{NotAfter}
use Rattle.verdicts.specs.Orders.{Sooner, letter_of, Earlier, NotLater}

sooner_trans : (l m n : Letter) → Sooner l m → Sooner m n → Sooner l n
sooner_trans l m n (inl p) (inl q) = inl (omega arith)
sooner_trans l m n (inl p) (inr (e, q)) = inl (omega arith)
sooner_trans l m n (inr (e, p)) (inl q) = inl (omega arith)
sooner_trans l m n (inr (e, p)) (inr (f, q)) = inr (e ∙ f, omega arith)

pub earlier_trans : (l m n : Prefix) → Earlier l m → Earlier m n → Earlier l n
earlier_trans (then l a r) (then m b q) (then n c s) (inl p) (inl h) = inl (earlier_trans l m n p h)
earlier_trans (then l a r) (then m b q) (then n c s) (inl p) (inr (e, k)) = inl (subst (Earlier l) e p)
earlier_trans (then l a r) (then m b q) (then n c s) (inr (e, k)) (inl h) = inl (subst (λ x. Earlier x n) (sym e) h)
earlier_trans (then l a r) (then m b q) (then n c s) (inr (e, k)) (inr (f, j)) =
    inr (e ∙ f, sooner_trans (letter_of a r) (letter_of b q) (letter_of c s) k j)
earlier_trans nothing m n x'' _ = elim x'' [ ]
earlier_trans (then l a r) nothing n x5 _ = elim x5 [ ]
earlier_trans (then l a r) (then m b q) nothing _ x9 = elim x9 [ ]

pub not_later_trans : (l m n : Prefix) → NotLater l m → NotLater m n → NotLater l n
not_later_trans l m n (inl e) q = subst (λ x. NotLater x n) (sym e) q
not_later_trans l m n (inr p) (inl e) = inr (subst (Earlier l) e p)
not_later_trans l m n (inr p) (inr q) = inr (earlier_trans l m n p q)

-- one letter more
pub not_later_then : (l m : Prefix) (a r : ℕ) → NotLater l m → NotLater (then l a r) (then m a r)
not_later_then l m a r (inl e) = inl (ap (λ x. then x a r) e)
not_later_then l m a r (inr p) = inr (inl p)

same_prefix : (l : Prefix) (u v : Word) → NotAfter (numbers u) (numbers v) → NotAfter (numbers (onto l u)) (numbers (onto l v))
same_prefix nothing u v h = h
same_prefix (then l a r) u v h = same_prefix l (at a r u) (at a r v) (inr (refl, inr (refl, h)))

sooner_words : (a r b q : ℕ) (u v : Word) → Sooner (letter_of a r) (letter_of b q)
    → NotAfter (numbers (at a r u)) (numbers (at b q v))
sooner_words a r b q u v (inl h) = inl h
sooner_words a r b q u v (inr (e, h)) = inr (e, inl h)

earlier_words : (l m : Prefix) (u v : Word) → Earlier l m → NotAfter (numbers (onto l u)) (numbers (onto m v))
earlier_words (then l a r) (then m b q) u v (inl p) = earlier_words l m (at a r u) (at b q v) p
earlier_words (then l a r) (then m b q) u v (inr (e, k)) =
    subst (λ x. NotAfter (numbers (onto l (at a r u))) (numbers (onto x (at b q v)))) e
    (same_prefix l (at a r u) (at b q v) (sooner_words a r b q u v k))
earlier_words nothing m u v x' = elim x' [ ]
earlier_words (then l a r) nothing u v x3 = elim x3 [ ]

-- of two words with a prefix and one atom
pub earlier_word : (l m : Prefix) (a b : ℕ) → Earlier l m → NotAfter (numbers (onto l (end a))) (numbers (onto m (end b)))
earlier_word l m a b p = earlier_words l m (end a) (end b) p

pub lower_word : (l : Prefix) (a b : ℕ) → a ≤ b → NotAfter (numbers (onto l (end a))) (numbers (onto l (end b)))
lower_word l a b h = same_prefix l (end a) (end b) (⊎_elim (λ e. inr (e, tt)) (λ k. inl k) (eq-or-lt_of_le h))

not_after_both : (xs ys : List ℕ) → NotAfter xs ys → NotAfter ys xs → xs ≡ ys
not_after_both [] [] p q = refl
not_after_both (x ∷ xs) (y ∷ ys) (inl p) (inl q) = absurd (omega arith)
not_after_both (x ∷ xs) (y ∷ ys) (inl p) (inr (e, q)) = absurd (omega arith)
not_after_both (x ∷ xs) (y ∷ ys) (inr (e, p)) (inl q) = absurd (omega arith)
not_after_both (x ∷ xs) (y ∷ ys) (inr (e, p)) (inr (f, q)) = ap₂ ◌∷◌ e (not_after_both xs ys p q)
not_after_both [] (y ∷ ys) p q = elim q [ ]
not_after_both (x ∷ xs) [] p q = elim p [ ]

-- the numbers tell the word
abbrev tail_of : List ℕ → List ℕ
tail_of [] = []
tail_of (x ∷ xs) = xs

abbrev head_of : List ℕ → ℕ
head_of [] = 0
head_of (x ∷ xs) = x

abbrev Some : List ℕ → Type 0
Some [] = ⊥
Some (x ∷ xs) = Unit {0}

numbers_same : (v w : Word) → numbers v ≡ numbers w → v ≡ w
numbers_same (end a) (end b) e = ap end (ap head_of e)
numbers_same (end a) (at b q w) e = absurd (subst Some (sym (ap tail_of e)) tt)
numbers_same (at a r v) (end b) e = absurd (subst Some (ap tail_of e) tt)
numbers_same (at a r v) (at b q w) e =
    let rest : v ≡ w = numbers_same v w (ap (λ l. tail_of (tail_of l)) e) in
    λ i. at (ap head_of e i) (ap (λ l. head_of (tail_of l)) e i) (rest i)

-- two words, neither of which comes after the other, are one
pub words_same : (v w : Word) → NotAfter (numbers v) (numbers w) → NotAfter (numbers w) (numbers v) → v ≡ w
words_same v w p q = numbers_same v w (not_after_both (numbers v) (numbers w) p q)
