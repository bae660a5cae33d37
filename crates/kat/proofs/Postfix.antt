-- The postfixes that are made of others mean what document 01 says: `?` adds each event with itself, and `*` is `+`, then `?`. (Document 01,
-- "Sheet and graph bytes", last paragraph.)
-- Assumes nothing.
use mathlib.Core.Path.{◌≡◌, refl}
use mathlib.Core.Logic.{◌⊎◌, ◌↔◌}
use mathlib.Core.Logic.◌⊎◌.{inl, inr}
use Rattle.kat.specs.Expr.{Expr, opt, star}
use Rattle.kat.specs.Graph.{Graph, Rel, Plus}

module _ (G : Graph) (E : Expr) (x y : G.Event) where
  pub opt_adds_itself : Rel G (opt E) x y ↔ (Rel G E x y ⊎ (x ≡ y))
  opt_adds_itself = (to, from)
    where
      to : Rel G (opt E) x y → Rel G E x y ⊎ (x ≡ y)
      to (inl h) = inl h
      to (inr (e, t)) = inr e

      from : Rel G E x y ⊎ (x ≡ y) → Rel G (opt E) x y
      from (inl h) = inl h
      from (inr e) = inr (e, refl)

  pub star_is_plus_then_opt : Rel G (star E) x y ↔ (Plus (Rel G E) x y ⊎ (x ≡ y))
  star_is_plus_then_opt = (to, from)
    where
      to : Rel G (star E) x y → Plus (Rel G E) x y ⊎ (x ≡ y)
      to (inl h) = inl h
      to (inr (e, t)) = inr e

      from : Plus (Rel G E) x y ⊎ (x ≡ y) → Rel G (star E) x y
      from (inl h) = inl h
      from (inr e) = inr (e, refl)
