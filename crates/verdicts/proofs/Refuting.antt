-- The word that a sheet or a search calls refuting is one that refutes by the languages: a left word that is no right word for a path
-- claim, or not covered for a ring claim. By the word, letter by letter, from what a standing's completion says of its prefix.
-- Assumes nothing.
use Prim.Native.Nat.{ℕ}
use mathlib.Core.Path.{◌≡◌, refl, sym, ◌∙◌, subst}
use mathlib.Core.Logic.{◌↔◌}
use mathlib.Core.Bool.{Bool, true, false, not, cond, ◌&&◌}
use mathlib.Core.List.{[], ◌∷◌}
use Rattle.kat.specs.Lists.{In, here, member, there}
use Rattle.kat.specs.Word.{Word, end, at, first, last}
use Rattle.kat.specs.Language.{Lang}
use Rattle.kat.specs.Ring.{Prefix, nothing, then, onto, body, Covered}
use Rattle.kat.specs.Tables.{null, ends}
use Rattle.kat.proofs.Bools.{and_left, and_right, and_both, not_true_false, false_not_true, false_of_not, true_not_false}
use Rattle.kat.proofs.Sets.{filter_in, in_filter, member_in, in_member}
use Rattle.kat.specs.Turns.{NonEmpty}
use Rattle.kat.proofs.Growing.{start_own}
use Rattle.kat.proofs.Words.{first_onto, last_onto, body_onto, atom_is_word, covered_nothing, covered_own}
use Rattle.notation.specs.Sides.{Decision}
use Rattle.verdicts.specs.Standings.{System, Letter, Path, Ring, refuting_atoms, covered, path_system, path_finals, ring_system, ring_finals}
use Rattle.verdicts.specs.Passing.{refuting, completes}
use Rattle.verdicts.specs.Verdicts.{StandingOf, begun, grown}
use Rattle.notation.specs.Words.{Guarded, Uncovered, Refutes}
use Rattle.verdicts.proofs.PathStandings.{ends_is_language, path_completes}
use Rattle.verdicts.proofs.RingStandings.{ring_reads}
use Rattle.verdicts.specs.JustRead.{RingReads}
use Rattle.verdicts.proofs.RingCovered.{covered_is_said}

-- for any kind of standing whose completion says `Bad` of the word
module _ (S : System) (Bad : Word → Type 0)
    (complete : (l : Prefix) (s : S.Standing) (a : ℕ) → StandingOf S l s → In a (S.finals s) ↔ (In a S.live × Bad (onto l (end a))))
    (single : (a : ℕ) → In a S.alone ↔ (In a S.live × Bad (end a))) where
  completes_is_bad : (w : Word) (l : Prefix) (s : S.Standing) → StandingOf S l s → Guarded S.live S.relations w
      → (completes S s w ≡ true) ↔ Bad (onto l w)
  unfolding completes
  completes_is_bad (end a) l s t g = (
    (λ e. let (i, b) = (complete l s a t).0 (member_in a (S.finals s) e) in b),
    (λ b. in_member a ((complete l s a t).1 (member_in a S.live g, b))),
  )
  completes_is_bad (at a r w) l s t (g, h, k) =
      let L : Letter = record { atom = a; relation = r } in
      let ih : (completes S (S.onward s L) w ≡ true) ↔ Bad (onto l (at a r w)) =
      completes_is_bad w (then l a r) (S.onward s L) (grown t g h) k
      in
      ((λ e. ih.0 (and_right (member a S.live) (completes S (S.onward s L) w) e)), (λ b. and_both g (ih.1 b)))

  pub refuting_is_bad : (w : Word) → Guarded S.live S.relations w → (refuting S w ≡ true) ↔ Bad w
  unfolding refuting
  refuting_is_bad (end a) g = (
    (λ e. let (i, b) = (single a).0 (member_in a S.alone e) in b),
    (λ b. in_member a ((single a).1 (member_in a S.live g, b))),
  )
  refuting_is_bad (at a r w) (g, h, k) =
      let L : Letter = record { atom = a; relation = r } in
      let ih : (completes S (S.begin L) w ≡ true) ↔ Bad (at a r w) =
      completes_is_bad w (then nothing a r) (S.begin L) (begun g h) k
      in
      ((λ e. ih.0 (and_right (member a S.live) (completes S (S.begin L) w) e)), (λ b. and_both g (ih.1 b)))

module _ (D : Decision) where
  -- a single atom that refutes
  alone_in : (a : ℕ) → In a (refuting_atoms D) ↔ (In a D.live × (null D.left a ≡ true) × (null D.right a ≡ false))
  unfolding refuting_atoms
  alone_in a =
      let f : ℕ → Bool = λ a. null D.left a && not (null D.right a) in (
        (λ i.
            let (j, h) = filter_in f D.live i in (
              j,
              and_left (null D.left a) (not (null D.right a)) h,
              not_true_false (null D.right a) (and_right (null D.left a) (not (null D.right a)) h),
            )),
        (λ (j, n, m). in_filter f j (and_both n (false_not_true m))),
      )

  abbrev PathBad : Word → Type 0
  PathBad w = Lang D.left w × Uncovered false D.right w

  path_single : (a : ℕ) → In a (refuting_atoms D) ↔ (In a D.live × PathBad (end a))
  path_single a = (
    (λ i.
        let (j, n, m) = (alone_in a).0 i in
        (j, ((atom_is_word D.left a).1 n, (λ w. true_not_false ((atom_is_word D.right a).0 w) m)))),
    (λ (j, (n, m)).
        (alone_in a).1 (j, (atom_is_word D.left a).0 n, false_of_not (null D.right a) (λ e. m ((atom_is_word D.right a).1 e)))),
  )

  path_complete : (l : Prefix) (s : Path) (a : ℕ) → StandingOf (path_system D) l s
      → In a (path_finals D s) ↔ (In a D.live × PathBad (onto l (end a)))
  path_complete l s a t =
      ((λ i. let (j, w, n) = (path_completes D a t).0 i in (j, (w, n))), (λ (j, (w, n)). (path_completes D a t).1 (j, w, n)))

  -- path claims
  pub path_refuting : (w : Word) → Guarded D.live D.relations w
      → (refuting (path_system D) w ≡ true) ↔ (Lang D.left w × Uncovered false D.right w)
  path_refuting w g = refuting_is_bad (path_system D) PathBad path_complete path_single w g

  abbrev RingBad : Word → Type 0
  RingBad w = Lang D.left w × Uncovered true D.right w

  ring_single : (a : ℕ) → In a (refuting_atoms D) ↔ (In a D.live × RingBad (end a))
  ring_single a = (
    (λ i.
        let (j, n, m) = (alone_in a).0 i in
        (j, ((atom_is_word D.left a).1 n, (refl, (λ c. true_not_false ((covered_nothing D.right a).0 c) m))))),
    (λ (j, (n, (e, m))).
        (alone_in a).1 (j, (atom_is_word D.left a).0 n, false_of_not (null D.right a) (λ h. m ((covered_nothing D.right a).1 h)))),
  )

  in_cond : (a x : ℕ) (c : Bool) → In a (cond c (x ∷ []) []) ↔ ((c ≡ true) × (a ≡ x))
  in_cond a x true = (own, (λ (c, e). here e))
    where
      own : In a (x ∷ []) → (true ≡ true) × (a ≡ x)
      own (here e) = (refl, e)
      own (there x4) = elim x4 [ ]
  in_cond a x false = ((λ i. elim i [ ]), (λ (c, e). absurd (true_not_false c refl)))

  -- the ring closes: the last atom is the first one
  closes_at : (l : Prefix) (s : Ring) → RingReads D l s → (a : ℕ) → (first (onto l (end a)) ≡ last (onto l (end a))) ↔ (a ≡ s.first)
  closes_at l s k a =
      let e : first (onto l (end a)) ≡ s.first = first_onto l (end a) ∙ start_own a 0 l k.longer ∙ sym k.first_atom in
      let f : last (onto l (end a)) ≡ a = last_onto l (end a) in
      ((λ h. sym f ∙ sym h ∙ e), (λ h. e ∙ sym h ∙ sym f))

  -- its covering, by the word and by the prefix
  word_covered : (l : Prefix) (a : ℕ) → NonEmpty l
      → Covered D.right (first (onto l (end a))) (body nothing (onto l (end a))) ↔ Covered D.right 0 l
  word_covered l a h = (
    (λ c. covered_own D.right (first (onto l (end a))) 0 l h
        (subst (Covered D.right (first (onto l (end a)))) (body_onto l a) c)),
    (λ c. subst (Covered D.right (first (onto l (end a)))) (sym (body_onto l a))
        (covered_own D.right 0 (first (onto l (end a))) l h c)),
  )

  ring_complete : (l : Prefix) (s : Ring) (a : ℕ) → StandingOf (ring_system D) l s
      → In a (ring_finals D s) ↔ (In a D.live × RingBad (onto l (end a)))
  unfolding ring_finals
  ring_complete l s a t =
      let k : RingReads D l s = ring_reads D t in
      let A : Bool = member s.first D.live in
      let B : Bool = ends D.left s.P s.first in
      let C : Bool = not (covered D s) in (
        (λ i.
            let (c, e) = (in_cond a s.first (A && B && C)).0 i in
            let ab : (A && B) ≡ true = and_left (A && B) C c in
            let no : covered D s ≡ false = not_true_false (covered D s) (and_right (A && B) C c) in (
              subst (λ x. In x D.live) (sym e) (member_in s.first D.live (and_left A B ab)),
              (
                subst (λ x. Lang D.left (onto l (end x))) (sym e)
                    ((ends_is_language D.left l s.P s.first k.left_read).0 (and_right A B ab)),
                (
                  (closes_at l s k a).1 e,
                  (λ h. true_not_false ((covered_is_said D l s k).1 ((word_covered l a k.longer).0 h)) no),
                ),
              ),
            )),
        (λ (j, (w, (f, n))).
            let e : a ≡ s.first = (closes_at l s k a).0 f in
            (in_cond a s.first (A && B && C)).1 (
              and_both
                  (and_both (in_member s.first (subst (λ x. In x D.live) e j))
                  ((ends_is_language D.left l s.P s.first k.left_read).1 (subst (λ x. Lang D.left (onto l (end x))) e w)))
                  (false_not_true (false_of_not (covered D s) (λ h. n ((word_covered l a k.longer).1 ((covered_is_said D l s k).0 h))))),
              e,
            )),
      )

  -- ring claims
  pub ring_refuting : (w : Word) → Guarded D.live D.relations w
      → (refuting (ring_system D) w ≡ true) ↔ (Lang D.left w × Uncovered true D.right w)
  ring_refuting w g = refuting_is_bad (ring_system D) RingBad ring_complete ring_single w g

  -- what refutes by the languages is what the search and the check call refuting
  pub refutes_path : D.ring ≡ false → (w : Word) → Refutes D w ↔ (Guarded D.live D.relations w × (refuting (path_system D) w ≡ true))
  refutes_path k w = (
    (λ (g, l, u).
        (g, (path_refuting w g).1 (l, subst (λ b. Uncovered b D.right w) k u))),
    (λ (g, e).
        let (l, u) = (path_refuting w g).0 e in (g, l, subst (λ b. Uncovered b D.right w) (sym k) u)),
  )

  pub refutes_ring : D.ring ≡ true → (w : Word) → Refutes D w ↔ (Guarded D.live D.relations w × (refuting (ring_system D) w ≡ true))
  refutes_ring k w = (
    (λ (g, l, u).
        (g, (ring_refuting w g).1 (l, subst (λ b. Uncovered b D.right w) k u))),
    (λ (g, e).
        let (l, u) = (ring_refuting w g).0 e in (g, l, subst (λ b. Uncovered b D.right w) (sym k) u)),
  )
