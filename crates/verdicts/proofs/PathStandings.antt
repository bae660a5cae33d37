-- What the fields of a path standing say of its prefix: P is the set of left occurrences that it may have just read, S the set of right
-- ones, each by ways through the side; and it completes with an atom exactly when the word of the prefix and that atom is a left word
-- and no right word.
-- Assumes nothing.
use Prim.Native.Nat.{ℕ}
use mathlib.Core.Path.{◌≡◌, sym}
use mathlib.Core.Logic.{◌↔◌}
use mathlib.Core.Bool.{Bool, true, false, not, ◌&&◌}
use mathlib.Core.List.{List, [], ◌∷◌}
use Rattle.kat.specs.Expr.{Expr}
use Rattle.kat.specs.Lists.{In, here, there}
use Rattle.kat.specs.Word.{end}
use Rattle.kat.specs.Language.{Lang}
use Rattle.kat.specs.Ring.{Prefix, nothing, then, onto}
use Rattle.kat.specs.Tables.{after, ends}
use Rattle.kat.proofs.Bools.{and_left, and_right, and_both, not_true_false, false_not_true, false_of_not, true_not_false}
use Rattle.kat.proofs.Sets.{filter_in, in_filter}
use Rattle.kat.proofs.Runs.{after_in, ends_in_lem, language_by_ways}
use Rattle.notation.specs.Sides.{Decision}
use Rattle.verdicts.specs.Standings.{Path, path_system, path_step, path_finals}
use Rattle.verdicts.specs.Verdicts.{StandingOf, begun, grown}
use Rattle.verdicts.specs.JustRead.{JustRead}

pub just_read_begin : (E : Expr) (a r : ℕ) → JustRead E (then nothing a r) (after E (0 ∷ []) a r)
just_read_begin E a r q = (
  (λ i. let (p, j, n, m) = (after_in E (0 ∷ []) a r q).0 i in (p, zero_only p j, n, m)),
  (λ (p, e, n, m). (after_in E (0 ∷ []) a r q).1 (p, here (sym e), n, m)),
)
  where
    zero_only : (p : ℕ) → In p (0 ∷ []) → 0 ≡ p
    zero_only p (here e) = sym e
    zero_only p (there x3) = elim x3 [ ]

pub just_read_onward : (E : Expr) (l : Prefix) (P : List ℕ) (a r : ℕ) → JustRead E l P → JustRead E (then l a r) (after E P a r)
just_read_onward E l P a r h q = (
  (λ i. let (p, j, n, m) = (after_in E P a r q).0 i in (p, (h p).0 j, n, m)),
  (λ (p, w, n, m). (after_in E P a r q).1 (p, (h p).1 w, n, m)),
)

-- one of the set may be read last exactly when the prefix and the atom are a word
pub ends_is_language : (E : Expr) (l : Prefix) (P : List ℕ) (a : ℕ) → JustRead E l P → (ends E P a ≡ true) ↔ Lang E (onto l (end a))
ends_is_language E l P a h = (
  (λ e. let (p, i, s) = (ends_in_lem E P a).0 e in (language_by_ways E l a).1 (p, (h p).0 i, s)),
  (λ w. let (p, i, s) = (language_by_ways E l a).0 w in (ends_in_lem E P a).1 (p, (h p).1 i, s)),
)

module _ (D : Decision) where
  pub path_reads : {l : Prefix} {s : Path} → StandingOf (path_system D) l s
      → JustRead D.left l s.P × JustRead D.right l s.S
  unfolding path_step
  path_reads (begun {a = a} {r = r} h k) = (just_read_begin D.left a r, just_read_begin D.right a r)
  path_reads (grown {l = l} {s = s} {a = a} {r = r} t h k) =
      let (p, q) = path_reads t in
      (just_read_onward D.left l s.P a r p, just_read_onward D.right l s.S a r q)

  pub path_completes : {l : Prefix} {s : Path} (a : ℕ) → StandingOf (path_system D) l s
      → In a (path_finals D s) ↔ (In a D.live × Lang D.left (onto l (end a)) × (Lang D.right (onto l (end a)) → ⊥))
  unfolding path_finals
  path_completes {l} {s} a t =
      let (p, q) = path_reads t in
      let f : ℕ → Bool = λ b. ends D.left s.P b && not (ends D.right s.S b) in (
        (λ i.
            let (j, h) = filter_in f D.live i in
            let no : ends D.right s.S a ≡ false = not_true_false (ends D.right s.S a) (and_right (ends D.left s.P a) (not (ends D.right s.S a)) h) in (
              j,
              (ends_is_language D.left l s.P a p).0 (and_left (ends D.left s.P a) (not (ends D.right s.S a)) h),
              (λ w. true_not_false ((ends_is_language D.right l s.S a q).1 w) no),
            )),
        (λ (j, w, n).
            in_filter f j
            (and_both ((ends_is_language D.left l s.P a p).1 w)
            (false_not_true (false_of_not (ends D.right s.S a) (λ e. n ((ends_is_language D.right l s.S a q).0 e)))))),
      )
