-- Laws of a line that is read part by part: its bytes so far, one more, its end, and one piece of it after the other.
-- Assumes nothing.
use Prim.Native.Nat.{ℕ, suc, ◌+◌, ◌≤◌, ◌<◌}
use native.Mathlib.Numerals.{add-one}
use native.Mathlib.Omega.{arith}
use mathlib.Core.Path.{◌≡◌, refl, sym, ◌∙◌, ap, subst}
use mathlib.Core.Bool.{Bool, true, false, cond, true≢false}
use mathlib.Core.List.{List, [], ◌∷◌, ◌++◌, append_assoc, append-nil}
use lib.Dec.{eqb}
use lib.ListN.{length, get_or, take, drop, drop_of_length-le, length-take}
use lib.Seq.{drop-cons, get_or-take}
use borrow.Author.Tests.{ne_eqb}
use Rattle.case_lines.specs.declared.Found.{Found}
use Rattle.case_lines.specs.declared.Found.TheVariants as founds
use Rattle.case_lines.specs.declared.escape.Next.{Next}
use Rattle.case_lines.specs.declared.escape.Place.{Place}
use Rattle.case_lines.specs.Escapes.{ended, behind, meant}
use Rattle.case_lines.specs.Lines.{left, unended, Kept, Ended, Begun, Scanned, line_start}
use Rattle.case_lines.proofs.Putting.{puts_nothing, puts_append, puts_bytes}
use Rattle.case_lines.proofs.Stepping.{Steps, behind_append, meant_append}

unended_append : (bs cs : List ℕ) → unended bs ≡ true → unended cs ≡ true → unended (bs ++ cs) ≡ true
unfolding unended
unended_append [] cs p q = q
unended_append (b ∷ bs) cs p q = go (eqb b 10) p (λ r. unended_append bs cs r q)
  where
    go : (e : Bool) → cond e false (unended bs) ≡ true → (unended bs ≡ true → unended (bs ++ cs) ≡ true) → cond e false (unended (bs ++ cs)) ≡ true
    go true r f = absurd (true≢false (sym r))
    go false r f = f r

unended_one : (b : ℕ) → (b ≡ 10 → ⊥) → unended (b ∷ []) ≡ true
unfolding unended
unended_one b h = ap (λ (e : Bool). cond e false true) (ne_eqb b 10 h)

-- one piece of a line after the other
kept_append : {t₀ t₁ t₂ : List ℕ} {s p : Place} {to : ℕ} {bs cs : List ℕ} → p.next ≡ behind s.next bs
    → Kept t₀ s bs p.used t₁ → Kept t₁ p cs to t₂ → Kept t₀ s (bs ++ cs) to t₂
kept_append {t₀} {t₁} {t₂} {s} {p} {to} {bs} {cs} e k l =
    record {
      one = unended_append bs cs k.one l.one;
      bytes =
          puts_bytes (ap (λ (n : Next). meant s.next bs ++ meant n cs) e ∙ sym (meant_append s.next bs cs)) (puts_append k.bytes l.bytes);
    }

joined : {bs rest : List ℕ} (cs ds es : List ℕ) → bs ≡ cs ++ rest → rest ≡ ds ++ es → bs ≡ (cs ++ ds) ++ es
joined cs ds es p q = p ∙ ap (λ (x : List ℕ). cs ++ x) q ∙ sym (append_assoc cs ds es)

pub begun_begun : {t₀ t₁ t₂ bytes rest rest₁ : List ℕ} {s p q : Place}
    → Begun t₀ s bytes rest p t₁ → Begun t₁ p rest rest₁ q t₂ → Begun t₀ s bytes rest₁ q t₂
begun_begun {t₀} {t₁} {t₂} {bytes} {rest} {rest₁} {s} {p} {q} a b =
    record {
      line = a.line ++ b.line;
      parts = joined a.line b.line _ a.parts b.parts;
      kept = kept_append {s = s} {p = p} a.next a.kept b.kept;
      next = b.next ∙ ap (λ (n : Next). behind n b.line) a.next ∙ sym (behind_append s.next a.line b.line);
    }

pub begun_ended : {t₀ t₁ t₂ bytes rest rest₁ : List ℕ} {s p : Place} {to : ℕ}
    → Begun t₀ s bytes rest p t₁ → Ended t₁ p rest rest₁ to t₂ → Ended t₀ s bytes rest₁ to t₂
begun_ended {t₀} {t₁} {t₂} {bytes} {rest} {rest₁} {s} {p} {to} a b =
    record {
      line = a.line ++ b.line;
      parts = joined a.line b.line _ a.parts b.parts;
      kept = kept_append {s = s} {p = p} a.next a.kept b.kept;
    }

-- nothing so far
kept_nothing : (t : List ℕ) (s : Place) → Kept t s [] s.used t
unfolding unended meant
kept_nothing t s = record { one = refl; bytes = puts_nothing t s.used }

pub begun_start : (t bytes : List ℕ) (s : Place) → Begun t s bytes bytes s t
unfolding behind
begun_start t bytes s = record { line = []; parts = refl; kept = kept_nothing t s; next = refl }

-- one byte, and the end
begun_one : {t₀ t₁ : List ℕ} (s p : Place) (b : ℕ) (rest : List ℕ) → (b ≡ 10 → ⊥) → Steps t₀ s.used s.next b p.used p.next t₁
    → Begun t₀ s (b ∷ rest) rest p t₁
unfolding behind meant
begun_one s p b rest h st =
    record {
      line = b ∷ [];
      parts = refl;
      kept = record { one = unended_one b h; bytes = puts_bytes (sym (append-nil (ended s.next b))) st.0 };
      next = st.1;
    }

ended_here : (t : List ℕ) (s : Place) (b : ℕ) (rest : List ℕ) → b ≡ 10 → Ended t s (b ∷ rest) rest s.used t
ended_here t s b rest e = record { line = []; parts = ap (λ (x : ℕ). x ∷ rest) e; kept = kept_nothing t s }

-- the bytes of a part from a place on
left_byte : (part : List ℕ) (at filled : ℕ) → at < filled → at < length part → left part at filled ≡ get_or part at 0 ∷ left part (at + 1) filled
left_byte part at filled h k =
    drop-cons (take filled part) at 0 (omega (arith, length-take filled part))
    ∙ ap (λ (x : ℕ). x ∷ drop (suc at) (take filled part)) (get_or-take filled part at 0 h)
    ∙ ap (λ (j : ℕ). get_or part at 0 ∷ drop j (take filled part)) (sym (add-one at))

left_past : (part : List ℕ) (at filled : ℕ) → filled ≤ at → left part at filled ≡ []
left_past part at filled h = drop_of_length-le (take filled part) {i = at} (omega (arith, length-take filled part))

left_over : (part : List ℕ) (at filled : ℕ) → length part ≤ at → left part at filled ≡ []
left_over part at filled h = drop_of_length-le (take filled part) {i = at} (omega (arith, length-take filled part))

module _ {t₀ bytes : List ℕ} {s : Place} (part : List ℕ) (at filled : ℕ) where
  pub scan_more : {t₁ t₂ : List ℕ} {p q : Place} → at < filled → at < length part → (get_or part at 0 ≡ 10 → ⊥)
      → Begun t₀ s bytes (left part at filled) p t₁ → Steps t₁ p.used p.next (get_or part at 0) q.used q.next t₂
      → Begun t₀ s bytes (left part (at + 1) filled) q t₂
  scan_more {t₁} {t₂} {p} {q} h k n b st =
      begun_begun (subst (λ (x : List ℕ). Begun t₀ s bytes x p t₁) (left_byte part at filled h k) b)
      (begun_one p q (get_or part at 0) (left part (at + 1) filled) n st)

  pub scan_end : {t₁ : List ℕ} {p : Place} → at < filled → at < length part → get_or part at 0 ≡ 10
      → Begun t₀ s bytes (left part at filled) p t₁ → Ended t₀ s bytes (left part (at + 1) filled) p.used t₁
  scan_end {t₁} {p} h k e b =
      begun_ended (subst (λ (x : List ℕ). Begun t₀ s bytes x p t₁) (left_byte part at filled h k) b)
      (ended_here t₁ p (get_or part at 0) (left part (at + 1) filled) e)

  pub scan_past : {t₁ : List ℕ} {p : Place} → filled ≤ at → Begun t₀ s bytes (left part at filled) p t₁ → Begun t₀ s bytes [] p t₁
  scan_past {t₁} {p} h b = subst (λ (x : List ℕ). Begun t₀ s bytes x p t₁) (left_past part at filled h) b

  pub scan_over : {t₁ : List ℕ} {p : Place} → length part ≤ at → Begun t₀ s bytes (left part at filled) p t₁ → Begun t₀ s bytes [] p t₁
  scan_over {t₁} {p} h b = subst (λ (x : List ℕ). Begun t₀ s bytes x p t₁) (left_over part at filled h) b

-- what is read behind it
pub begun_read : {t₀ t₁ : List ℕ} {s p : Place} (bytes read new : List ℕ) → Begun t₀ s (bytes ++ read) [] p t₁
    → Begun t₀ s (bytes ++ (read ++ new)) new p t₁
begun_read bytes read new b =
    record {
      line = b.line;
      parts =
          sym (append_assoc bytes read new) ∙ ap (λ (x : List ℕ). x ++ new) b.parts
          ∙ ap (λ (x : List ℕ). x ++ new) (append-nil b.line);
      kept = b.kept;
      next = b.next;
    }

-- the start of a line, with nothing read yet
pub begun_first : (t bytes : List ℕ) (p : Place) → p ≡ line_start → Begun t line_start (bytes ++ []) bytes p t
begun_first t bytes p e =
    subst (λ (q : Place). Begun t line_start (bytes ++ []) bytes q t) (sym e)
    (subst (λ (x : List ℕ). Begun t line_start x bytes line_start t) (sym (append-nil bytes)) (begun_start t bytes line_start))

-- what a part holds, where it is known which of the two it is
pub found_line : {t t₁ : List ℕ} {s : Place} (part : List ℕ) (from filled : ℕ) (r : Found) {n at : ℕ} → r ≡ founds.Line n at
    → Scanned part from filled t s r t₁ → Ended t s (left part from filled) (left part at filled) n t₁
found_line {t} {t₁} {s} part from filled r e h = subst (λ (x : Found). Scanned part from filled t s x t₁) e h

pub found_more : {t t₁ : List ℕ} {s : Place} (part : List ℕ) (from filled : ℕ) (r : Found) {p : Place} → r ≡ founds.More p
    → Scanned part from filled t s r t₁ → Begun t s (left part from filled) [] p t₁
found_more {t} {t₁} {s} part from filled r e h = subst (λ (x : Found). Scanned part from filled t s x t₁) e h
