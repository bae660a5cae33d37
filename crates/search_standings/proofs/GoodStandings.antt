-- Where a kind of standing shows another, every standing that the verdict lists is good, over any letters of the kind.
-- Assumes nothing.
use Prim.Native.Nat.{ℕ, zero, suc}
use mathlib.Core.Path.{◌≡◌, refl, sym, subst}
use mathlib.Core.Logic.{⊎_elim}
use mathlib.Core.Bool.{false}
use mathlib.Core.List.{List, [], ◌∷◌, ◌++◌, map}
use mathlib.Core.Option.{Option, some, none}
use lib.Dec.{ltb}
use lib.ListN.{length}
use Rattle.kat.specs.Lists.{In}
use Rattle.kat.specs.Word.{Word, end}
use Rattle.kat.proofs.Bools.{bool_cases}
use Rattle.kat.proofs.Sets.{map_in}
use Rattle.claims.specs.Standings.{System, Letter}
use Rattle.claims.specs.Search.{Entry, Verdict, proved, refuted, spent, first_level, fresh, completed}
use Rattle.search_standings.specs.Over.{levels_over, verdict_over}
use Rattle.search_standings.proofs.Over.{over_spent, over_refuted, over_proved, over_more}
use Rattle.standings.proofs.Shows.{Shows, AllFit}
use Rattle.search_standings.proofs.VerdictShown.{Goods, good_append, first_good, fresh_good, nexts, nexts_good}

-- the standings that a verdict lists are good
abbrev pub AllListedGood : (W : System) → (W.Standing → Type 0) → Verdict W → Type 0
AllListedGood W Good (proved ss) = (s : W.Standing) → In s ss → Good s
AllListedGood W Good (refuted w) = Unit {0}
AllListedGood W Good spent = Unit {0}

module _ {S W : System} {show : W.Standing → S.Standing} {Good : W.Standing → Type 0} (k : Shows S W show Good) where
  seen_good : (seen : List (Entry W)) → Goods k seen → (s : W.Standing) → In s (map (λ e. e.standing) seen) → Good s
  seen_good seen g s i = let (e, j, z) = map_in (λ e. e.standing) seen i in subst Good (sym z) (g e j)

  levels_good : (ls : List Letter) (f allowance : ℕ) (seen new : List (Entry W)) → AllFit W ls → Goods k seen → Goods k new
      → AllListedGood W Good (levels_over W ls f allowance seen new)
  unfolding levels_over
  levels_good ls zero allowance seen new i g n = tt
  levels_good ls (suc f) allowance seen [] i g n =
      ⊎_elim (λ h. subst (AllListedGood W Good) (sym (over_spent W ls f allowance seen [] h)) tt)
      (λ h. subst (AllListedGood W Good) (sym (over_proved W ls f allowance seen h)) (seen_good seen g))
      (bool_cases (ltb allowance (length seen)))
  levels_good ls (suc f) allowance seen (e ∷ es) i g n =
      ⊎_elim (λ h. subst (AllListedGood W Good) (sym (over_spent W ls f allowance seen (e ∷ es) h)) tt)
      (λ h. go (completed W (e ∷ es)) refl h
      (levels_good ls f allowance (seen ++ nexts k ls f allowance seen e es) (nexts k ls f allowance seen e es) i
      (good_append S W show Good seen (nexts k ls f allowance seen e es) g (nexts_good k ls f allowance seen e es i n))
      (nexts_good k ls f allowance seen e es i n)))
      (bool_cases (ltb allowance (length seen)))
    where
      go : (c : Option Word) → completed W (e ∷ es) ≡ c → ltb allowance (length seen) ≡ false
          → AllListedGood W Good (levels_over W ls f allowance (seen ++ nexts k ls f allowance seen e es) (nexts k ls f allowance seen e es))
          → AllListedGood W Good (levels_over W ls (suc f) allowance seen (e ∷ es))
      go none c h q = subst (AllListedGood W Good) (sym (over_more W ls f allowance seen e es h c)) q
      go (some w) c h q = subst (AllListedGood W Good) (sym (over_refuted W ls f allowance seen (e ∷ es) w h c)) tt

  pub verdict_over_good : (ls ms : List Letter) (f allowance : ℕ) → AllFit W ls → AllFit W ms
      → AllListedGood W Good (verdict_over W ls ms f allowance)
  unfolding verdict_over
  verdict_over_good ls ms f allowance h i = go W.alone
    where
      good : Goods k (fresh W [] (first_level W ls))
      good = fresh_good k [] (first_level W ls) (first_good k ls h)

      go : (as' : List ℕ)
          → AllListedGood W Good
          (elim as' [
            | a ∷ bs ↦ refuted (end a)
            | [] ↦ levels_over W ms f allowance (fresh W [] (first_level W ls)) (fresh W [] (first_level W ls))
          ])
      go [] = levels_good ms f allowance (fresh W [] (first_level W ls)) (fresh W [] (first_level W ls)) i good good
      go (a ∷ bs) = tt
