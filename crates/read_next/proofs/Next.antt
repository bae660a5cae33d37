-- What stands next, by what the code asks: a mark, a word, a run of one mark.
-- Assumes nothing.
use Prim.Native.Nat.{ℕ, zero, suc, ◌+◌, ◌-◌, ◌≤◌, ◌<◌}
use native.Mathlib.Omega.{arith}
use native.Mathlib.Numerals.{add-one}
use mathlib.Core.Path.{◌≡◌, refl, sym, ap, ◌∙◌, subst}
use mathlib.Core.Bool.{Bool, true, false, cond}
use mathlib.Core.List.{List, [], ◌∷◌, ◌++◌}
use lib.Dec.{eqb}
use lib.ListN.{length, drop, replicate}
use borrow.Author.Tests.{eqb-true, eq-eqb, ne_eqb}
use denote.Enum.Declared.{tag_of}
use types.Run.{OneOf, miss}
use Rattle.std.specs.Prelude.{Option, Some, None}
use Rattle.claims.specs.Tokens as Notation
use Rattle.claims.specs.Tokens.{tokens}
use Rattle.claims.specs.Bytes.{same}
use Rattle.claims.specs.Grammar.{goes_on, past, says_next}
use Rattle.read_tokens.specs.declared.Key.{Key}
use Rattle.read_tokens.specs.declared.Token.{Token}
use Rattle.read_tokens.specs.declared.Token.TheVariants.{Word, Mark, Bad, End}
use Rattle.read_tokens.specs.contracts.Token.{the_type}
use Rattle.read_tokens.specs.Scan.{key_of, token_at, first_byte, Spelled}
use Rattle.read_names.specs.Keys.{same_key}
use Rattle.read_tokens.proofs.Tokens.{Scanned, ScannedWord, ScannedMark, tokens_scanned}
use Rattle.read_tokens.proofs.Found.{mark_first}
use Rattle.read_names.proofs.Names.{same_key_lem}
use Rattle.read_next.specs.Next.{mark_end, mark_next, word_end, word_next, MarksNext}

-- what an answer says: something stands next and ends there, or nothing does, as the test says
abbrev Said : (ℕ → Type 0) → Bool → Option ℕ → Type 0
Said Stands test (Some e) = Stands e
Said Stands test None = test ≡ false

-- a mark
module _ (s : List ℕ) (at b : ℕ) where
  abbrev MarkSaid : Option ℕ → Type 0
  MarkSaid o = Said (ScannedMark s at b) (goes_on b (tokens (drop at s))) o

  marked : (c e : ℕ) → ScannedMark s at c e → (t : Bool) → eqb b c ≡ t → MarkSaid (cond t (Some e) None)
  marked c e h true u = subst (λ x. ScannedMark s at x e) (sym (eqb-true b c u)) h
  marked c e h false u = ap (goes_on b) h.read ∙ u

  scanned_said : (t : Token) → Scanned s at t → MarkSaid (mark_end b t)
  unfolding mark_end
  scanned_said (Word k e) h = ap (goes_on b) h.read
  scanned_said (Mark c e) h = marked c e h (eqb b c) refl
  scanned_said Bad h = ap (goes_on b) h.1
  scanned_said End h = ap (goes_on b) h

  said : (o : Option ℕ) → o ≡ mark_next s at b → MarkSaid o
  unfolding mark_next
  said o next = subst MarkSaid (sym next) (scanned_said (token_at s at) (tokens_scanned s at))

  pub mark_stands : (e : ℕ) → Some e ≡ mark_next s at b → ScannedMark s at b e
  mark_stands e next = said (Some e) next

  pub mark_missing : None ≡ mark_next s at b → goes_on b (tokens (drop at s)) ≡ false
  mark_missing next = said None next

-- a mark that stands next
module _ (s : List ℕ) (at b e : ℕ) (m : ScannedMark s at b e) where
  pub goes_on_lem : goes_on b (tokens (drop at s)) ≡ true
  goes_on_lem = ap (goes_on b) m.read ∙ eq-eqb b b refl

  pub passed : past (tokens (drop at s)) ≡ tokens (drop e s)
  passed = ap past m.read

  pub one_fewer : length (tokens (drop at s)) ≡ suc (length (tokens (drop e s)))
  one_fewer = ap length m.read

-- the word w stands next, and e is the position behind it
pub record WordStands (s : List ℕ) (at : ℕ) (w : List ℕ) (e : ℕ) : Type 0 where
  pub says : says_next w (tokens (drop at s)) ≡ true
  pub passes : past (tokens (drop at s)) ≡ tokens (drop e s)
  pub after : at < e
  pub within : e ≤ length s
  pub fewer : length (tokens (drop at s)) ≡ suc (length (tokens (drop e s)))

module _ (s : List ℕ) (at : ℕ) (w : List ℕ) where
  abbrev WordSaid : Option ℕ → Type 0
  WordSaid o = Said (WordStands s at w) (says_next w (tokens (drop at s))) o

  worded : (l : Key) (e : ℕ) (f : ScannedWord s at l e) (t : Bool) → same w f.spelling ≡ t → WordSaid (cond t (Some e) None)
  worded l e f true u =
      record {
        says = ap (says_next w) f.read ∙ u;
        passes = ap past f.read;
        after = f.after;
        within = f.within;
        fewer = ap length f.read;
      }
  worded l e f false u = ap (says_next w) f.read ∙ u

  scanned_word_said : Spelled w → (k : Key) → k ≡ key_of w → (t : Token) → Scanned s at t → WordSaid (word_end k t)
  unfolding word_end
  scanned_word_said a k i (Word l e) f =
      subst (λ b. WordSaid (cond b (Some e) None))
      (sym (ap (λ y. same_key y l) i ∙ ap (same_key (key_of w)) f.key ∙ same_key_lem w f.spelling a f.spelled))
      (worded l e f (same w f.spelling) refl)
  scanned_word_said a k i (Mark c e) f = ap (says_next w) f.read
  scanned_word_said a k i Bad f = ap (says_next w) f.1
  scanned_word_said a k i End f = ap (says_next w) f

  -- a word spelled as names are is asked for by its key
  module _ (spelled : Spelled w) (k : Key) (is : k ≡ key_of w) where
    word_said : (o : Option ℕ) → o ≡ word_next s at k → WordSaid o
    unfolding word_next
    word_said o next = subst WordSaid (sym next) (scanned_word_said spelled k is (token_at s at) (tokens_scanned s at))

    pub word_stands : (e : ℕ) → Some e ≡ word_next s at k → WordStands s at w e
    word_stands e next = word_said (Some e) next

    pub word_missing : None ≡ word_next s at k → says_next w (tokens (drop at s)) ≡ false
    word_missing next = word_said None next

-- a token that is no mark, or no word, by the number of its variant
abbrev pub NoMark : Token → Type 0
NoMark t = OneOf (0 ∷ 2 ∷ 3 ∷ []) (tag_of the_type t)

abbrev pub NoWord : Token → Type 0
NoWord t = OneOf (1 ∷ 2 ∷ 3 ∷ []) (tag_of the_type t)

no_mark : (b : ℕ) (t : Token) → NoMark t → None ≡ mark_end b t
unfolding mark_end
no_mark b (Word l e) h = refl
no_mark b (Mark c e) h = absurd (miss (0 ∷ 2 ∷ 3 ∷ []) 1 tt h)
no_mark b Bad h = refl
no_mark b End h = refl

no_word : (k : Key) (t : Token) → NoWord t → None ≡ word_end k t
unfolding word_end
no_word k (Word l e) h = absurd (miss (1 ∷ 2 ∷ 3 ∷ []) 0 tt h)
no_word k (Mark c e) h = refl
no_word k Bad h = refl
no_word k End h = refl

-- what is answered for the token t that was found
module _ (s : List ℕ) (at b : ℕ) {t : Token} (found : t ≡ token_at s at) where
  mark_of : mark_end b t ≡ mark_next s at b
  unfolding mark_next
  mark_of = ap (mark_end b) found

  pub mark_none : NoMark t → None ≡ mark_next s at b
  mark_none h = no_mark b t h ∙ mark_of

  pub mark_here : {c e : ℕ} → t ≡ Mark c e → b ≡ c → Some e ≡ mark_next s at b
  unfolding mark_end
  mark_here {c} {e} h k = sym (ap (λ x. cond x (Some e) None) (eq-eqb b c k)) ∙ ap (mark_end b) (sym h) ∙ mark_of

  pub mark_differs : {c e : ℕ} → t ≡ Mark c e → (b ≡ c → ⊥) → None ≡ mark_next s at b
  unfolding mark_end
  mark_differs {c} {e} h k = sym (ap (λ x. cond x (Some e) None) (ne_eqb b c k)) ∙ ap (mark_end b) (sym h) ∙ mark_of

-- another byte stands where the mark would
pub mark_elsewhere : (s : List ℕ) (at b : ℕ) → (first_byte s at ≡ b → ⊥) → None ≡ mark_next s at b
unfolding mark_next mark_end
mark_elsewhere s at b h = go (token_at s at) refl
  where
    go : (t : Token) → token_at s at ≡ t → None ≡ mark_end b t
    go (Word k e) g = refl
    go (Mark c e) g = sym (ap (λ x. cond x (Some e) None) (ne_eqb b c (λ z. h (mark_first s at c e g ∙ sym z))))
    go Bad g = refl
    go End g = refl

module _ (s : List ℕ) (at : ℕ) (k : Key) {t : Token} (found : t ≡ token_at s at) where
  word_of_lem : word_end k t ≡ word_next s at k
  unfolding word_next
  word_of_lem = ap (word_end k) found

  pub word_none : NoWord t → None ≡ word_next s at k
  word_none h = no_word k t h ∙ word_of_lem

  pub word_tested : {l : Key} {e : ℕ} {b : Bool} → t ≡ Word l e → b ≡ same_key k l → cond b (Some e) None ≡ word_next s at k
  unfolding word_end
  word_tested {l} {e} h g = ap (λ x. cond x (Some e) None) g ∙ ap (word_end k) (sym h) ∙ word_of_lem

-- a run of one mark
module _ (s : List ℕ) (at b : ℕ) where
  -- n of them were passed, up to i
  pub record Passed (i n : ℕ) : Type 0 where
    pub read : tokens (drop at s) ≡ replicate n (Notation.mark b) ++ tokens (drop i s)
    pub onward : at ≤ i
    pub room : n + (length s - i) ≤ length s - at

  pub run_start : Passed at 0
  run_start = record { read = refl; onward = omega arith; room = omega arith }

  again : (n : ℕ) (ts : List Notation.Token) → replicate n (Notation.mark b) ++ (Notation.mark b ∷ ts) ≡ replicate (suc n) (Notation.mark b) ++ ts
  again zero ts = refl
  again (suc n) ts = ap (λ l. Notation.mark b ∷ l) (again n ts)

  pub run_more : (i n e : ℕ) → Passed i n → ScannedMark s i b e → Passed e (n + 1)
  run_more i n e p m =
      record {
        read =
            p.read ∙ ap (λ ts. replicate n (Notation.mark b) ++ ts) m.read ∙ again n (tokens (drop e s))
            ∙ ap (λ k. replicate k (Notation.mark b) ++ tokens (drop e s)) (sym (add-one n));
        onward = omega (arith, p.onward, m.after);
        room = omega (arith, p.room, m.after, m.within);
      }

  pub run_end : (i n : ℕ) → Passed i n → goes_on b (tokens (drop i s)) ≡ false → MarksNext s at b (record { at = i; count = n })
  run_end i n p h = record { read = p.read; stop = h; onward = p.onward; room = p.room }
