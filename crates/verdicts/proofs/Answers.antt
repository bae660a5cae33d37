-- What an answer means at the level where the search gives it. Refuted: the level's first completed word is the least of all refuting
-- words. Proved: with nothing fresh in a level, every standing stands in a level before, so no word of any length refutes. Spent: the
-- standings seen are the witnesses.
-- Assumes nothing.
use Prim.Native.Nat.{ℕ, suc, ◌+◌, ◌≤◌, ◌<◌}
use native.Mathlib.Nat.{le_of_suc-le-suc}
use native.Mathlib.Decide.{dec_lt}
use native.Mathlib.Omega.{arith}
use mathlib.Core.Path.{◌≡◌, refl, sym, ◌∙◌, ap, subst}
use mathlib.Core.Logic.{⊎_elim, by_cases}
use mathlib.Core.Logic.◌⊎◌.{inl, inr}
use mathlib.Core.Bool.{true}
use mathlib.Core.List.{List, [], ◌∷◌, ◌++◌, append-nil}
use lib.ListN.{length}
use Rattle.kat.specs.Lists.{In, here, there}
use Rattle.kat.specs.Word.{Word, end, size, numbers}
use Rattle.kat.specs.Ring.{Prefix, onto}
use Rattle.kat.proofs.Bools.{false_of_not, true_not_false}
use Rattle.verdicts.specs.Standings.{System}
use Rattle.verdicts.specs.Passing.{refuting}
use Rattle.verdicts.specs.Search.{Entry}
use Rattle.notation.specs.Words.{Guarded}
use Rattle.verdicts.specs.Verdicts.{relations_in, NotAfter, StandingOf, begun, grown, Within, NoneShorter, AtMost, ProvedBy, RefutedBy, SpentAt}
use Rattle.verdicts.specs.Lawful.{Lawful}
use Rattle.verdicts.specs.Orders.{Rising, NotLater, letter_of}
use Rattle.verdicts.proofs.Distinct.{distinct_no_longer}
use Rattle.verdicts.proofs.Order.{not_later_trans, earlier_word, lower_word}
use Rattle.verdicts.proofs.Prefixes
use Rattle.verdicts.proofs.Fresh.{standings}
use Rattle.verdicts.proofs.Candidates.{Completes}
use Rattle.verdicts.proofs.Levels.{Reached, Found, now_sound, now_complete, seen_completes_none, refuting_found}

pub length_standings : (S : System) (es : List (Entry S)) → length (standings S es) ≡ length es
length_standings S [] = refl
length_standings S (e ∷ es) = ap suc (length_standings S es)

-- the first of a rising list is the lowest
pub first_lowest : (a : ℕ) (as' : List ℕ) (b : ℕ) → Rising (a ∷ as') → In b (a ∷ as') → a ≤ b
first_lowest a as' b h (here e) = omega arith
first_lowest a as' b h (there i) = let k : a < b = h.0 b i in omega arith

module _ (S : System) (laws : Lawful S) (c k : ℕ) (seen new : List (Entry S)) (r : Reached S laws k seen new) where
  -- levels 1 to k + 1 hold no more standings than are seen
  pub at_most : length (seen ++ new) ≤ c → AtMost S (suc k) c
  at_most h ss d w =
      let n = distinct_no_longer ss (standings S (seen ++ new)) d (λ s i. now_complete S laws k seen new r s (w s i)) in
      let e = length_standings S (seen ++ new) in
      omega arith

  pub spent_here : c < length (seen ++ new) → SpentAt S c (suc k)
  spent_here h = (
    (standings S (seen ++ new), r.apart, now_sound S laws k seen new r, rw (length_standings S (seen ++ new)) h),
    r.behind.none_shorter,
    (λ m i j. r.behind.each_fresh m i (le_of_suc-le-suc j)),
  )

  module _ (w : Word) (f : Completes S new w) where
    refuted_stands : StandingOf S f.entry.prefix f.entry.standing
    refuted_stands = (r.stands f.entry f.inside).0.0

    refuted_final : In f.atom (S.finals f.entry.standing)
    refuted_final = rw f.finals (here refl)

    pub refuted_size : size w ≡ suc k
    refuted_size =
        let e : size (onto f.entry.prefix (end f.atom)) ≡ relations_in f.entry.prefix + 0 =
        Prefixes.size_onto f.entry.prefix (end f.atom) in
        let q : relations_in f.entry.prefix ≡ suc k = (r.stands f.entry f.inside).0.1 in
        ap size f.word ∙ omega arith

    -- of two words completed at the level, the one with the earlier prefix comes first, then the one with the lower atom
    refuted_before : (l : Prefix) (s : S.Standing) (b : ℕ) → StandingOf S l s → In b (S.finals s) → NotLater f.entry.prefix l
        → NotAfter (numbers (onto f.entry.prefix (end f.atom))) (numbers (onto l (end b)))
    refuted_before l s b p i (inr h) = earlier_word f.entry.prefix l f.atom b h
    refuted_before l s b p i (inl e) =
        let q : f.entry.standing ≡ s = Prefixes.standing_one S (subst (λ m. StandingOf S m f.entry.standing) e refuted_stands) p in
        let j : In b (f.atom ∷ f.others) = subst (In b) (sym (ap S.finals q) ∙ f.finals) i in
        subst (λ m. NotAfter (numbers (onto f.entry.prefix (end f.atom))) (numbers (onto m (end b)))) e
        (lower_word f.entry.prefix f.atom b
        (first_lowest f.atom f.others b (subst Rising f.finals (laws.finals_rising f.entry.standing)) j))

    refuted_first : (v : Word) → Guarded S.live S.relations v → size v ≡ size w → refuting S v ≡ true → NotAfter (numbers w) (numbers v)
    refuted_first v g e h =
        let t : Found S laws k seen new r v = refuting_found S laws k seen new r v g (e ∙ refuted_size) h in
        let a : NotLater f.entry.prefix t.entry.prefix =
        ⊎_elim (λ q. inl (ap (λ x. x.prefix) q)) (λ q. inr q)
        (f.foremost r.ahead t.entry t.cut.b t.inside
        (subst (λ s. In t.cut.b (S.finals s)) (sym t.standing) t.final)) in
        rw (f.word, t.cut.word)
        (refuted_before t.cut.l t.cut.s t.cut.b t.cut.standing t.final
        (not_later_trans f.entry.prefix t.entry.prefix t.cut.l a t.not_later))

    pub refuted_here : length (seen ++ new) ≤ c → RefutedBy S c w
    refuted_here h = (
      subst (Guarded S.live S.relations) (sym f.word) (Prefixes.finals_guarded S laws f.atom refuted_stands refuted_final),
      ap (refuting S) f.word ∙ Prefixes.finals_refute S f.atom refuted_stands refuted_final,
      subst (NoneShorter S) (sym refuted_size) r.behind.none_shorter,
      refuted_first,
      subst (λ n. AtMost S n c) (sym refuted_size) (at_most h),
    )

-- a level with nothing fresh
module _ (S : System) (laws : Lawful S) (c k : ℕ) (seen : List (Entry S)) (r : Reached S laws k seen []) where
  nothing_new : (s : S.Standing) → Within S (suc k) s → In s (standings S seen)
  nothing_new s h = subst (λ es. In s (standings S es)) (append-nil seen) (now_complete S laws k seen [] r s h)

  -- every standing was seen
  all_seen : {l : Prefix} {s : S.Standing} → StandingOf S l s → S.possible s ≡ true → In s (standings S seen)
  all_seen (begun {a = a} {r = q} h j) o =
      nothing_new (S.begin (letter_of a q))
      (1, omega arith, Prefixes.holds_begin S (letter_of a q) (h, j) o)
  all_seen (grown {s = t} {a = a} {r = q} p h j) o =
      let (m, n, w) = r.behind.sound t (all_seen p (Prefixes.before_possible S laws t (letter_of a q) o)) in
      nothing_new (S.onward t (letter_of a q))
      (suc m, omega arith, Prefixes.holds_onward S m t (letter_of a q) w (h, j) o)

  refutes_none : (v : Word) → Guarded S.live S.relations v → refuting S v ≡ true → ⊥
  refutes_none v g e =
      by_cases (dec_lt (size v) (suc k)) (λ n. true_not_false e (r.behind.none_shorter v g n)) (λ n. longer (omega arith))
    where
      longer : suc k ≤ size v → ⊥
      longer h =
          let x : Prefixes.Cut S v = Prefixes.cut_word S v g (omega arith) in
          let f : In x.b (S.finals x.s) = Prefixes.cut_final S v x e in
          seen_completes_none S laws k seen [] r x.s x.b
          (all_seen x.standing (Prefixes.completing_possible S laws x.s x.b f)) f

  pub proved_here : length (seen ++ []) ≤ c → ProvedBy S c (standings S (seen ++ []))
  proved_here h = (
    (λ v g. false_of_not (refuting S v) (refutes_none v g)),
    r.apart,
    (λ s. (
      (λ i. let (m, n, w) = now_sound S laws k seen [] r s i in (m, w)),
      (λ (m, (l, p, q, o)). subst (λ es. In s (standings S es)) (sym (append-nil seen)) (all_seen p o)),
    )),
    rw (length_standings S (seen ++ [])) h,
  )
