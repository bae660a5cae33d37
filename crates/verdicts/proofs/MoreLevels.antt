-- More levels than two above the allowance change no verdict, for every lawful kind of standing. The idea: each level but the last adds a
-- standing, so that after as many levels as the allowance and two more are seen than allowed, and the verdict is `spent` either way.
-- Assumes nothing.
use Prim.Native.Nat.{ℕ, zero, suc, ◌+◌, ◌≤◌}
use native.Mathlib.Omega.{arith}
use mathlib.Core.Path.{◌≡◌, refl, sym, ◌∙◌, ap}
use mathlib.Core.Bool.{Bool, true, false}
use mathlib.Core.List.{List, [], ◌∷◌, ◌++◌}
use mathlib.Core.Option.{Option, some, none}
use lib.Dec.{ltb}
use lib.ListN.{length, length-append}
use borrow.Author.Tests.{lt-ltb}
use Rattle.kat.specs.Lists.{here}
use Rattle.kat.specs.Word.{Word}
use Rattle.verdicts.specs.Standings.{System, letters}
use Rattle.verdicts.specs.Search.{Entry, spent, first_level, next_level, fresh, completed, levels, verdict_within, verdict}
use Rattle.verdicts.specs.Lawful.{Lawful}
use Rattle.verdicts.proofs.Levels.{Reached, fresh_reached, next_behind, next_offered}
use Rattle.verdicts.proofs.Walk.{levels_spent, levels_refuted, levels_proved, levels_next, verdict_opens, first_reached}

module _ (S : System) (laws : Lawful S) (c : ℕ) where
  -- f and g turns from level k + 1 on give the same
  abbrev SameFrom : ℕ → ℕ → ℕ → Type 0
  SameFrom f g k =
      (seen new : List (Entry S)) → Reached S laws k seen new → levels S f c (seen ++ new) new ≡ levels S g c (seen ++ new) new

  spent_anyway : (f k : ℕ) → c + 2 ≤ k → (seen new : List (Entry S)) → Reached S laws k seen new → levels S f c (seen ++ new) new ≡ spent
  unfolding levels
  spent_anyway zero k h seen new r = refl
  spent_anyway (suc f) k h seen new r =
      let b = r.behind.filled in
      levels_spent S f c (seen ++ new) new (lt-ltb c (length (seen ++ new)) (rw (length-append seen new) (omega arith)))

  -- a level that answers nothing
  quiet_same : (f g k : ℕ) → SameFrom f g (suc k) → (seen new : List (Entry S)) → Reached S laws k seen new
      → ltb c (length (seen ++ new)) ≡ false → completed S new ≡ none
      → levels S (suc f) c (seen ++ new) new ≡ levels S (suc g) c (seen ++ new) new
  quiet_same f g k on seen [] r h q = levels_proved S f c (seen ++ []) h ∙ sym (levels_proved S g c (seen ++ []) h)
  quiet_same f g k on seen (e ∷ es) r h q =
      levels_next S f c (seen ++ (e ∷ es)) e es h q
      ∙ on (seen ++ (e ∷ es)) (fresh S (seen ++ (e ∷ es)) (next_level S (e ∷ es)))
      (fresh_reached S laws (suc k) (seen ++ (e ∷ es)) (next_level S (e ∷ es))
      (next_behind S laws k seen (e ∷ es) r q e (here refl)) (next_offered S laws k seen (e ∷ es) r))
      ∙ sym (levels_next S g c (seen ++ (e ∷ es)) e es h q)

  level_same : (f g k : ℕ) → SameFrom f g (suc k) → SameFrom (suc f) (suc g) k
  level_same f g k on seen new r = go (ltb c (length (seen ++ new))) (completed S new) refl refl
    where
      go : (b : Bool) (w : Option Word) → ltb c (length (seen ++ new)) ≡ b → completed S new ≡ w
          → levels S (suc f) c (seen ++ new) new ≡ levels S (suc g) c (seen ++ new) new
      go true w h e = levels_spent S f c (seen ++ new) new h ∙ sym (levels_spent S g c (seen ++ new) new h)
      go false (some w) h e = levels_refuted S f c (seen ++ new) new w h e ∙ sym (levels_refuted S g c (seen ++ new) new w h e)
      go false none h e = quiet_same f g k on seen new r h e

  levels_same : (f g k : ℕ) → c + 2 ≤ f + k → c + 2 ≤ g + k → SameFrom f g k
  levels_same zero g k h i seen new r =
      spent_anyway zero k (omega arith) seen new r ∙ sym (spent_anyway g k (omega arith) seen new r)
  levels_same (suc f) zero k h i seen new r =
      spent_anyway (suc f) k (omega arith) seen new r ∙ sym (spent_anyway zero k (omega arith) seen new r)
  levels_same (suc f) (suc g) k h i seen new r =
      level_same f g k (levels_same f g (suc k) (omega arith) (omega arith)) seen new r

  pub more_levels : (f : ℕ) → c + 2 ≤ f → verdict_within S f c ≡ verdict S c
  unfolding verdict
  more_levels f h = go S.alone refl
    where
      go : (as' : List ℕ) → S.alone ≡ as' → verdict_within S f c ≡ verdict_within S (suc (suc c)) c
      go [] e =
          verdict_opens S laws c f [] e
          ∙ levels_same f (suc (suc c)) 0 (omega arith) (omega arith) [] (fresh S [] (first_level S (letters S))) (first_reached S laws c e)
          ∙ sym (verdict_opens S laws c (suc (suc c)) [] e)
      go (a ∷ as') e = verdict_opens S laws c f (a ∷ as') e ∙ sym (verdict_opens S laws c (suc (suc c)) (a ∷ as') e)
