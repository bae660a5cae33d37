-- Whether a word is in the language of an expression is decided by the sets of occurrences that may have just been read.
-- Assumes nothing.
use Prim.Native.Nat.{ℕ}
use mathlib.Core.Path.{◌≡◌, refl, subst}
use mathlib.Core.Logic.{◌⊎◌, ⊎_elim, ◌↔◌}
use mathlib.Core.Logic.◌⊎◌.{inl, inr}
use mathlib.Core.Bool.{Bool, true}
use mathlib.Core.List.{List, [], ◌∷◌}
use Rattle.kat.specs.Expr.{Expr}
use Rattle.kat.specs.Lists.{In, here, there}
use Rattle.kat.specs.Word.{Word, end, at}
use Rattle.kat.specs.Language.{Lang}
use Rattle.kat.specs.Tables.{Reads, after, ends}
use Rattle.kat.proofs.Bools.{bool_cases, true_not_false}
use Rattle.kat.proofs.Runs.{after_in, ends_in_lem, language_is_read}

accepts : Expr → List ℕ → Word → Bool
accepts E P (end a) = ends E P a
accepts E P (at a r w) = accepts E (after E P a r) w

accepts_is_read : (E : Expr) (w : Word) (P : List ℕ) → (accepts E P w ≡ true) ↔ ((p : ℕ) × In p P × Reads E p w)
unfolding accepts
accepts_is_read E (end a) P = ends_in_lem E P a
accepts_is_read E (at a r w) P = (
  (λ h.
      let (q, i, t) = (accepts_is_read E w (after E P a r)).0 h in
      let (p, j, n, m) = (after_in E P a r q).0 i in
      (p, j, (q, n, m, t))),
  (λ (p, j, (q, n, m, t)). (accepts_is_read E w (after E P a r)).1 (q, (after_in E P a r q).1 (p, j, n, m), t)),
)

accepted : (E : Expr) (w : Word) → (accepts E (0 ∷ []) w ≡ true) ↔ Lang E w
accepted E w = (
  (λ h. let (p, i, t) = (accepts_is_read E w (0 ∷ [])).0 h in (language_is_read E w).1 (own p i t)),
  (λ l. (accepts_is_read E w (0 ∷ [])).1 (0, here refl, (language_is_read E w).0 l)),
)
  where
    own : (p : ℕ) → In p (0 ∷ []) → Reads E p w → Reads E 0 w
    own p (here e) t = subst (λ q. Reads E q w) e t
    own p (there x4) t = elim x4 [ ]

-- a word is in the language or it is not
pub language_decided : (E : Expr) (w : Word) → Lang E w ⊎ (Lang E w → ⊥)
language_decided E w =
    ⊎_elim (λ h. inl ((accepted E w).0 h)) (λ h. inr (λ l. true_not_false ((accepted E w).1 l) h))
    (bool_cases (accepts E (0 ∷ []) w))
