-- Where a kind of standing W shows another, S, the verdict of S is the verdict of W shown, over the same letters: level by
-- level the entries of S are those of W, with the standing shown and the prefix kept.
-- Assumes nothing.
use Prim.Native.Nat.{ℕ, zero, suc}
use mathlib.Core.Path.{◌≡◌, refl, sym, ◌∙◌, ap, ap₂, subst}
use mathlib.Core.Logic.{⊎_elim}
use mathlib.Core.Bool.{Bool, true, false, not, ◌&&◌}
use mathlib.Core.List.{List, [], ◌∷◌, ◌++◌, map}
use mathlib.Core.Option.{Option, some, none}
use lib.Dec.{ltb}
use lib.ListN.{length, length-map}
use Rattle.kat.specs.Lists.{In, here, there, upto}
use Rattle.kat.specs.Word.{Word, end}
use Rattle.kat.specs.Ring.{onto}
use Rattle.kat.proofs.Bools.{bool_cases}
use Rattle.kat.proofs.Sets.{in_append, some_same}
use Rattle.claims.specs.Standings.{System, Letter, letters, letters_of}
use Rattle.claims.specs.Search.{Entry, Verdict, proved, refuted, first_level, lengthened, seen_in, fresh, completed, verdict}
use Rattle.claims.proofs.Letters.{letters_in_lem}
use Rattle.bits.proofs.Lists.{some_map}
use Rattle.standings.proofs.Shows.{Shows, AllFit}
use Rattle.search_standings.specs.Over.{next_level_over, levels_over, verdict_over, shown}
use Rattle.search_standings.proofs.Over.{over_spent, over_refuted, over_proved, over_more, verdict_all}

module _ (S W : System) (show : W.Standing → S.Standing) (Good : W.Standing → Type 0) where
  -- an entry with its standing shown
  abbrev pub shown_entry : Entry W → Entry S
  shown_entry e = record { standing = show e.standing; prefix = e.prefix }

  -- the standings of a list of entries are good
  abbrev pub AllGood : List (Entry W) → Type 0
  AllGood es = (e : Entry W) → In e es → Good e.standing

  pub good_none : AllGood []
  good_none e i = elim i [ ]

  pub good_append : (es fs : List (Entry W)) → AllGood es → AllGood fs → AllGood (es ++ fs)
  good_append es fs p q e i = ⊎_elim (p e) (q e) (in_append es i)

  good_more : (e : Entry W) (es : List (Entry W)) → Good e.standing → AllGood es → AllGood (e ∷ es)
  good_more e es p q x (here z) = subst (λ y. Good y.standing) (sym z) p
  good_more e es p q x (there i) = q x i

  map-append : (es fs : List (Entry W)) → map shown_entry (es ++ fs) ≡ map shown_entry es ++ map shown_entry fs
  map-append [] fs = refl
  map-append (e ∷ es) fs = ap (λ gs. shown_entry e ∷ gs) (map-append es fs)

  shown_standings : (es : List (Entry W)) → map (λ e. e.standing) (map shown_entry es) ≡ map show (map (λ e. e.standing) es)
  shown_standings [] = refl
  shown_standings (e ∷ es) = ap (λ gs. show e.standing ∷ gs) (shown_standings es)

module _ {S W : System} {show : W.Standing → S.Standing} {Good : W.Standing → Type 0} (k : Shows S W show Good) where
  abbrev entries : List (Entry W) → List (Entry S)
  entries es = map (shown_entry S W show Good) es

  abbrev pub Goods : List (Entry W) → Type 0
  Goods es = AllGood S W show Good es

  -- level 1
  pub first_good : (ls : List Letter) → AllFit W ls → Goods (first_level W ls)
  unfolding first_level
  first_good [] h = good_none S W show Good
  first_good (l ∷ ls) h =
      good_more S W show Good _ (first_level W ls) (k.begins l (h l (here refl))) (first_good ls (λ m i. h m (there i)))

  first_shown : (ls : List Letter) → AllFit W ls → first_level S ls ≡ entries (first_level W ls)
  unfolding first_level
  first_shown [] h = refl
  first_shown (l ∷ ls) h = rw (k.begins_shown l (h l (here refl)), first_shown ls (λ m i. h m (there i)))

  -- one entry and one letter more
  grown_good : (e : Entry W) (ls : List Letter) → Good e.standing → AllFit W ls → Goods (lengthened W e ls)
  unfolding lengthened
  grown_good e [] g h = good_none S W show Good
  grown_good e (l ∷ ls) g h =
      good_more S W show Good _ (lengthened W e ls) (k.goes_on e.standing l g (h l (here refl))) (grown_good e ls g (λ m i. h m (there i)))

  grown_shown : (e : Entry W) (ls : List Letter) → Good e.standing → AllFit W ls
      → lengthened S (shown_entry S W show Good e) ls ≡ entries (lengthened W e ls)
  unfolding lengthened
  grown_shown e [] g h = refl
  grown_shown e (l ∷ ls) g h =
      rw (k.goes_on_shown e.standing l g (h l (here refl)), grown_shown e ls g (λ m i. h m (there i)))

  -- the next level
  pub next_good : (ls : List Letter) (es : List (Entry W)) → AllFit W ls → Goods es → Goods (next_level_over W ls es)
  unfolding next_level_over
  next_good ls [] h g = good_none S W show Good
  next_good ls (e ∷ es) h g =
      good_append S W show Good (lengthened W e ls) (next_level_over W ls es) (grown_good e ls (g e (here refl)) h)
      (next_good ls es h (λ x i. g x (there i)))

  next_shown : (ls : List Letter) (es : List (Entry W)) → AllFit W ls → Goods es
      → next_level_over S ls (entries es) ≡ entries (next_level_over W ls es)
  unfolding next_level_over
  next_shown ls [] h g = refl
  next_shown ls (e ∷ es) h g =
      ap₂ ◌++◌ (grown_shown e ls (g e (here refl)) h) (next_shown ls es h (λ x i. g x (there i)))
      ∙ sym (map-append S W show Good (lengthened W e ls) (next_level_over W ls es))

  -- what was seen
  seen_shown : (seen : List (Entry W)) (s : W.Standing) → Goods seen → Good s → seen_in S (entries seen) (show s) ≡ seen_in W seen s
  unfolding seen_in
  seen_shown seen s g h =
      some_map (shown_entry S W show Good) (λ e. S.equal (show s) e.standing) seen
      ∙ some_same (λ e. S.equal (show s) (show e.standing)) (λ e. W.equal s e.standing) seen
      (λ e i. k.same_equal s e.standing h (g e i))

  -- the test by which an entry is kept, and what it does
  abbrev keeps : (T : System) → List (Entry T) → Entry T → Bool
  keeps T seen e = T.possible e.standing && not (seen_in T seen e.standing)

  fresh_kept : (T : System) (seen : List (Entry T)) (e : Entry T) (es : List (Entry T)) → keeps T seen e ≡ true
      → fresh T seen (e ∷ es) ≡ e ∷ fresh T (e ∷ seen) es
  unfolding fresh
  fresh_kept T seen e es h = rw (h, fresh)

  fresh_dropped : (T : System) (seen : List (Entry T)) (e : Entry T) (es : List (Entry T)) → keeps T seen e ≡ false
      → fresh T seen (e ∷ es) ≡ fresh T seen es
  unfolding fresh
  fresh_dropped T seen e es h = rw (h, fresh)

  keeps_shown : (seen : List (Entry W)) (e : Entry W) → Goods seen → Good e.standing
      → keeps S (entries seen) (shown_entry S W show Good e) ≡ keeps W seen e
  keeps_shown seen e g h =
      ap₂ (λ a b. a && not b) (k.same_possible e.standing h) (seen_shown seen e.standing g h)

  pub fresh_good : (seen es : List (Entry W)) → Goods es → Goods (fresh W seen es)
  unfolding fresh
  fresh_good seen [] g = g
  fresh_good seen (e ∷ es) g =
      go (keeps W seen e) refl (fresh_good (e ∷ seen) es (λ x i. g x (there i))) (fresh_good seen es (λ x i. g x (there i)))
    where
      go : (b : Bool) → keeps W seen e ≡ b → Goods (fresh W (e ∷ seen) es) → Goods (fresh W seen es) → Goods (fresh W seen (e ∷ es))
      go true h p q =
          subst Goods (sym (fresh_kept W seen e es h)) (good_more S W show Good e (fresh W (e ∷ seen) es) (g e (here refl)) p)
      go false h p q = subst Goods (sym (fresh_dropped W seen e es h)) q

  fresh_shown : (seen es : List (Entry W)) → Goods seen → Goods es → fresh S (entries seen) (entries es) ≡ entries (fresh W seen es)
  unfolding fresh
  fresh_shown seen [] g h = refl
  fresh_shown seen (e ∷ es) g h =
      go (keeps W seen e) refl
      (fresh_shown (e ∷ seen) es (good_more S W show Good e seen (h e (here refl)) g) (λ x i. h x (there i)))
      (fresh_shown seen es g (λ x i. h x (there i)))
    where
      go : (b : Bool) → keeps W seen e ≡ b
          → fresh S (entries (e ∷ seen)) (entries es) ≡ entries (fresh W (e ∷ seen) es)
          → fresh S (entries seen) (entries es) ≡ entries (fresh W seen es)
          → fresh S (entries seen) (entries (e ∷ es)) ≡ entries (fresh W seen (e ∷ es))
      go true t p q =
          fresh_kept S (entries seen) (shown_entry S W show Good e) (entries es) (keeps_shown seen e g (h e (here refl)) ∙ t)
          ∙ ap (λ fs. shown_entry S W show Good e ∷ fs) p ∙ sym (ap entries (fresh_kept W seen e es t))
      go false t p q =
          fresh_dropped S (entries seen) (shown_entry S W show Good e) (entries es) (keeps_shown seen e g (h e (here refl)) ∙ t)
          ∙ q ∙ sym (ap entries (fresh_dropped W seen e es t))

  -- the first word completed
  completed_shown : (es : List (Entry W)) → Goods es → completed S (entries es) ≡ completed W es
  unfolding completed
  completed_shown [] g = refl
  completed_shown (e ∷ es) g =
      rw (k.same_finals e.standing (g e (here refl)), completed) (go (W.finals e.standing) (completed_shown es (λ x i. g x (there i))))
    where
      go : (as' : List ℕ) → completed S (entries es) ≡ completed W es
          → ◌≡◌ {A = Option Word} (elim as' [ [] ↦ completed S (entries es) | a ∷ bs ↦ some (onto e.prefix (end a)) ])
          (elim as' [ [] ↦ completed W es | a ∷ bs ↦ some (onto e.prefix (end a)) ])
      go [] q = q
      go (a ∷ bs) q = refl

  -- the cases of a level
  module _ (ls : List Letter) (f allowance : ℕ) (seen : List (Entry W)) where
    -- the next fresh standings
    abbrev pub nexts : Entry W → List (Entry W) → List (Entry W)
    nexts e es = fresh W seen (next_level_over W ls (e ∷ es))

    counted : {b : Bool} → ltb allowance (length seen) ≡ b → ltb allowance (length (entries seen)) ≡ b
    counted h = ap (ltb allowance) (length-map seen (shown_entry S W show Good)) ∙ h

    level_spent : (new : List (Entry W)) → ltb allowance (length seen) ≡ true
        → levels_over S ls (suc f) allowance (entries seen) (entries new) ≡ shown show (levels_over W ls (suc f) allowance seen new)
    level_spent new h =
        over_spent S ls f allowance (entries seen) (entries new) (counted h) ∙ sym (ap (shown show) (over_spent W ls f allowance seen new h))

    level_refuted : (new : List (Entry W)) (w : Word) → Goods new → ltb allowance (length seen) ≡ false → completed W new ≡ some w
        → levels_over S ls (suc f) allowance (entries seen) (entries new) ≡ shown show (levels_over W ls (suc f) allowance seen new)
    level_refuted new w g h c =
        over_refuted S ls f allowance (entries seen) (entries new) w (counted h) (completed_shown new g ∙ c)
        ∙ sym (ap (shown show) (over_refuted W ls f allowance seen new w h c))

    level_proved : ltb allowance (length seen) ≡ false
        → levels_over S ls (suc f) allowance (entries seen) [] ≡ shown show (levels_over W ls (suc f) allowance seen [])
    level_proved h =
        over_proved S ls f allowance (entries seen) (counted h) ∙ ap proved (shown_standings S W show Good seen)
        ∙ sym (ap (shown show) (over_proved W ls f allowance seen h))

    pub nexts_good : (e : Entry W) (es : List (Entry W)) → AllFit W ls → Goods (e ∷ es) → Goods (nexts e es)
    nexts_good e es i n = fresh_good seen (next_level_over W ls (e ∷ es)) (next_good ls (e ∷ es) i n)

    nexts_shown : (e : Entry W) (es : List (Entry W)) → AllFit W ls → Goods seen → Goods (e ∷ es)
        → fresh S (entries seen) (next_level_over S ls (entries (e ∷ es))) ≡ entries (nexts e es)
    nexts_shown e es i g n =
        ap (fresh S (entries seen)) (next_shown ls (e ∷ es) i n)
        ∙ fresh_shown seen (next_level_over W ls (e ∷ es)) g (next_good ls (e ∷ es) i n)

    level_more : (e : Entry W) (es : List (Entry W)) → AllFit W ls → Goods seen → Goods (e ∷ es)
        → ltb allowance (length seen) ≡ false → completed W (e ∷ es) ≡ none
        → levels_over S ls f allowance (entries (seen ++ nexts e es)) (entries (nexts e es))
        ≡ shown show (levels_over W ls f allowance (seen ++ nexts e es) (nexts e es))
        → levels_over S ls (suc f) allowance (entries seen) (entries (e ∷ es)) ≡ shown show (levels_over W ls (suc f) allowance seen (e ∷ es))
    level_more e es i g n h c q =
        over_more S ls f allowance (entries seen) (shown_entry S W show Good e) (entries es) (counted h) (completed_shown (e ∷ es) n ∙ c)
        ∙ ap (λ fs. levels_over S ls f allowance (entries seen ++ fs) fs) (nexts_shown e es i g n)
        ∙ ap (λ fs. levels_over S ls f allowance fs (entries (nexts e es))) (sym (map-append S W show Good seen (nexts e es)))
        ∙ q ∙ sym (ap (shown show) (over_more W ls f allowance seen e es h c))

  -- level by level
  levels_shown : (ls : List Letter) (f allowance : ℕ) (seen new : List (Entry W)) → AllFit W ls → Goods seen → Goods new
      → levels_over S ls f allowance (entries seen) (entries new) ≡ shown show (levels_over W ls f allowance seen new)
  unfolding levels_over
  levels_shown ls zero allowance seen new i g n = refl
  levels_shown ls (suc f) allowance seen [] i g n =
      ⊎_elim (λ h. level_spent ls f allowance seen [] h) (λ h. level_proved ls f allowance seen h)
      (bool_cases (ltb allowance (length seen)))
  levels_shown ls (suc f) allowance seen (e ∷ es) i g n =
      ⊎_elim (λ h. level_spent ls f allowance seen (e ∷ es) h)
      (λ h. go (completed W (e ∷ es)) refl h
      (levels_shown ls f allowance (seen ++ nexts ls f allowance seen e es) (nexts ls f allowance seen e es) i
      (good_append S W show Good seen (nexts ls f allowance seen e es) g (nexts_good ls f allowance seen e es i n))
      (nexts_good ls f allowance seen e es i n)))
      (bool_cases (ltb allowance (length seen)))
    where
      go : (c : Option Word) → completed W (e ∷ es) ≡ c → ltb allowance (length seen) ≡ false
          → levels_over S ls f allowance (entries (seen ++ nexts ls f allowance seen e es)) (entries (nexts ls f allowance seen e es))
          ≡ shown show (levels_over W ls f allowance (seen ++ nexts ls f allowance seen e es) (nexts ls f allowance seen e es))
          → levels_over S ls (suc f) allowance (entries seen) (entries (e ∷ es)) ≡ shown show (levels_over W ls (suc f) allowance seen (e ∷ es))
      go none c h q = level_more ls f allowance seen e es i g n h c q
      go (some w) c h q = level_refuted ls f allowance seen (e ∷ es) w n h c

  -- the verdict over chosen letters
  pub verdict_over_shown : (ls ms : List Letter) (f allowance : ℕ) → AllFit W ls → AllFit W ms
      → verdict_over S ls ms f allowance ≡ shown show (verdict_over W ls ms f allowance)
  unfolding verdict_over
  verdict_over_shown ls ms f allowance h i =
      subst
      (λ as'. ◌≡◌ {A = Verdict S}
      (elim as' [
        | a ∷ bs ↦ refuted (end a)
        | [] ↦ levels_over S ms f allowance (fresh S [] (first_level S ls)) (fresh S [] (first_level S ls))
      ])
      (shown show (verdict_over W ls ms f allowance)))
      (sym k.same_alone) (go W.alone)
    where
      start : fresh S [] (first_level S ls) ≡ entries (fresh W [] (first_level W ls))
      start =
          ap (fresh S []) (first_shown ls h) ∙ fresh_shown [] (first_level W ls) (good_none S W show Good) (first_good ls h)

      good : Goods (fresh W [] (first_level W ls))
      good = fresh_good [] (first_level W ls) (first_good ls h)

      go : (as' : List ℕ)
          → ◌≡◌ {A = Verdict S}
          (elim as' [
            | a ∷ bs ↦ refuted (end a)
            | [] ↦ levels_over S ms f allowance (fresh S [] (first_level S ls)) (fresh S [] (first_level S ls))
          ])
          (shown {S = S} {W = W} show (elim as' [
            | a ∷ bs ↦ refuted (end a)
            | [] ↦ levels_over W ms f allowance (fresh W [] (first_level W ls)) (fresh W [] (first_level W ls))
          ]))
      go [] =
          ap (λ es. levels_over S ms f allowance es es) start
          ∙ levels_shown ms f allowance (fresh W [] (first_level W ls)) (fresh W [] (first_level W ls)) i good good
      go (a ∷ bs) = refl

  same_letters : letters S ≡ letters W
  unfolding letters
  same_letters = ap₂ (λ as' n. letters_of as' (upto 0 n)) k.same_live k.same_relations

  -- the verdict ("Standings")
  pub verdict_shown : (allowance : ℕ) → verdict S allowance ≡ shown show (verdict W allowance)
  verdict_shown allowance =
      sym (verdict_all S allowance)
      ∙ ap (λ ls. verdict_over S ls ls (suc (suc allowance)) allowance) same_letters
      ∙ verdict_over_shown (letters W) (letters W) (suc (suc allowance)) allowance (letters_in_lem W) (letters_in_lem W)
      ∙ ap (shown show) (verdict_all W allowance)
