-- Where a kind of standing W shows another, S, the same sheets pass: good standings of W prove exactly where the standings that they show
-- do, over all letters or over those that pass a test, and a word refutes by W exactly where it does by S.
-- Assumes nothing.
use native.Mathlib.Omega.{arith}
use mathlib.Core.Path.{◌≡◌, refl, sym, ◌∙◌, ap, ap₂}
use mathlib.Core.Bool.{Bool, true, false, not, ◌&&◌, ◌||◌}
use mathlib.Core.List.{List, [], ◌∷◌, map}
use Rattle.kat.specs.Lists.{In, here, there, upto, filter, some, every, member, is_empty}
use Rattle.kat.specs.Word.{Word, end, at}
use Rattle.kat.proofs.Sets.{filter_in}
use Rattle.claims.specs.Sides.{Decision}
use Rattle.claims.specs.Standings.{System, Letter, letters, letters_of}
use Rattle.claims.specs.SheetWriting.{InRange}
use Rattle.claims.specs.Passing.{completes, refuting, listed, proving}
use Rattle.claims.specs.Thin.{thin_proving}
use Rattle.claims.specs.Orders.{letter_of}
use Rattle.claims.proofs.Letters.{letters_in_lem}
use Rattle.standings.proofs.Shows.{Shows, AllFit}

-- a test of a mapped list, and of the list
module _ {A B : Type 0} (f : B → A) (p : A → Bool) (q : B → Bool) where
  every_of_map : (l : List B) → ((x : B) → In x l → p (f x) ≡ q x) → every p (map f l) ≡ every q l
  every_of_map [] h = refl
  every_of_map (x ∷ xs) h = ap₂ ◌&&◌ (h x (here refl)) (every_of_map xs (λ y i. h y (there i)))

  some_of_map : (l : List B) → ((x : B) → In x l → p (f x) ≡ q x) → some p (map f l) ≡ some q l
  some_of_map [] h = refl
  some_of_map (x ∷ xs) h = ap₂ ◌||◌ (h x (here refl)) (some_of_map xs (λ y i. h y (there i)))

every_same : {A : Type 0} (p q : A → Bool) (l : List A) → ((x : A) → In x l → p x ≡ q x) → every p l ≡ every q l
every_same p q [] h = refl
every_same p q (x ∷ xs) h = ap₂ ◌&&◌ (h x (here refl)) (every_same p q xs (λ y i. h y (there i)))

-- every letter passes
filter_all : {A : Type 0} (l : List A) → filter (λ x. true) l ≡ l
filter_all [] = refl
filter_all (x ∷ xs) = ap (λ l. x ∷ l) (filter_all xs)

-- proving is thin proving over all letters
pub proving_thin : (S : System) (ss : List S.Standing) → proving S ss ≡ thin_proving S (λ l. true) (λ l. true) ss
unfolding proving thin_proving
proving_thin S ss =
    ap
    (λ ls.
    is_empty S.alone && every (λ l. listed S ss (S.begin l)) ls && every (λ s. every (λ l. listed S ss (S.onward s l)) ls) ss
    && every (λ s. is_empty (S.finals s)) ss)
    (sym (filter_all (letters S)))

-- what is asked after a test
guarded : (b x y : Bool) → (b ≡ true → x ≡ y) → (b && x) ≡ (b && y)
guarded true x y h = h refl
guarded false x y h = refl

module _ {S W : System} {show : W.Standing → S.Standing} {Good : W.Standing → Type 0} (k : Shows S W show Good) where
  pub letters_shown : letters S ≡ letters W
  unfolding letters
  letters_shown = ap₂ (λ as' n. letters_of as' (upto 0 n)) k.same_live k.same_relations

  -- listed standings
  module _ (ss : List W.Standing) (goods : (s : W.Standing) → In s ss → Good s) where
    pub listed_shown : (s : W.Standing) → Good s → listed S (map show ss) (show s) ≡ listed W ss s
    unfolding listed
    listed_shown s g =
        ap₂ (λ a b. not a || b) (k.same_possible s g)
        (some_of_map show (S.equal (show s)) (W.equal s) ss (λ t i. k.same_equal s t g (goods t i)))

    begins_listed : (ls : List Letter) → AllFit W ls
        → every (λ l. listed S (map show ss) (S.begin l)) ls ≡ every (λ l. listed W ss (W.begin l)) ls
    begins_listed ls h =
        every_same (λ l. listed S (map show ss) (S.begin l)) (λ l. listed W ss (W.begin l)) ls
        (λ l i. ap (listed S (map show ss)) (sym (k.begins_shown l (h l i))) ∙ listed_shown (W.begin l) (k.begins l (h l i)))

    steps_listed : (ls : List Letter) → AllFit W ls
        → every (λ s. every (λ l. listed S (map show ss) (S.onward s l)) ls) (map show ss)
        ≡ every (λ s. every (λ l. listed W ss (W.onward s l)) ls) ss
    steps_listed ls h =
        every_of_map show (λ s. every (λ l. listed S (map show ss) (S.onward s l)) ls)
        (λ s. every (λ l. listed W ss (W.onward s l)) ls) ss
        (λ s j. every_same (λ l. listed S (map show ss) (S.onward (show s) l)) (λ l. listed W ss (W.onward s l)) ls
        (λ l i. ap (listed S (map show ss)) (sym (k.goes_on_shown s l (goods s j) (h l i)))
        ∙ listed_shown (W.onward s l) (k.goes_on s l (goods s j) (h l i))))

    none_completes : every (λ s. is_empty (S.finals s)) (map show ss) ≡ every (λ s. is_empty (W.finals s)) ss
    none_completes =
        every_of_map show (λ s. is_empty (S.finals s)) (λ s. is_empty (W.finals s)) ss (λ s j. ap is_empty (k.same_finals s (goods s j)))

    fit : (test : Letter → Bool) → AllFit W (filter test (letters W))
    fit test l i = letters_in_lem W l (filter_in test (letters W) i).0

    -- standings listed prove, over letters that pass a test ("Sheet and graph bytes")
    pub thin_proving_shown : (first later : Letter → Bool) → thin_proving S first later (map show ss) ≡ thin_proving W first later ss
    unfolding thin_proving
    thin_proving_shown first later =
        ap₂ ◌&&◌
        (ap₂ ◌&&◌
        (ap₂ ◌&&◌ (ap is_empty k.same_alone)
        (ap (λ ls. every (λ l. listed S (map show ss) (S.begin l)) (filter first ls)) letters_shown
        ∙ begins_listed (filter first (letters W)) (fit first)))
        (ap (λ ls. every (λ s. every (λ l. listed S (map show ss) (S.onward s l)) (filter later ls)) (map show ss)) letters_shown
        ∙ steps_listed (filter later (letters W)) (fit later)))
        none_completes

    -- standings listed prove ("Sheet and graph bytes")
    pub proving_shown : proving S (map show ss) ≡ proving W ss
    proving_shown =
        proving_thin S (map show ss) ∙ thin_proving_shown (λ l. true) (λ l. true) ∙ sym (proving_thin W ss)

  -- words whose relations are declared
  module _ (D : Decision) (count : D.relations ≡ W.relations) where
    completes_shown : (s : W.Standing) (w : Word) → Good s → InRange D w → completes S (show s) w ≡ completes W s w
    unfolding completes
    completes_shown s (end a) g i = ap (member a) (k.same_finals s g)
    completes_shown s (at a r w) g (i, j, m) =
        ap (λ as'. member a as' && completes S (S.onward (show s) (letter_of a r)) w) k.same_live
        ∙ guarded (member a W.live) (completes S (S.onward (show s) (letter_of a r)) w) (completes W (W.onward s (letter_of a r)) w)
        (λ e. ap (λ t. completes S t w) (sym (k.goes_on_shown s (letter_of a r) g (e, omega arith)))
        ∙ completes_shown (W.onward s (letter_of a r)) w (k.goes_on s (letter_of a r) g (e, omega arith)) m)

    -- the word is a refuting word, by standings ("Sheet and graph bytes")
    pub refuting_shown : (w : Word) → InRange D w → refuting S w ≡ refuting W w
    unfolding refuting
    refuting_shown (end a) i = ap (member a) k.same_alone
    refuting_shown (at a r w) (i, j, m) =
        ap (λ as'. member a as' && completes S (S.begin (letter_of a r)) w) k.same_live
        ∙ guarded (member a W.live) (completes S (S.begin (letter_of a r)) w) (completes W (W.begin (letter_of a r)) w)
        (λ e. ap (λ t. completes S t w) (sym (k.begins_shown (letter_of a r) (e, omega arith)))
        ∙ completes_shown (W.begin (letter_of a r)) w (k.begins (letter_of a r) (e, omega arith)) m)
