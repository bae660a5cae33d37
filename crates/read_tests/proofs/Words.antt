-- Words as readers meet them: a name, `true` or `false`, by its key. One law for each way out of the readers of words.
-- Assumes nothing.
use Prim.Native.Nat.{ℕ, ◌+◌, ◌<◌}
use native.Mathlib.Omega.{arith}
use mathlib.Core.Path.{◌≡◌, refl, sym, ap, ◌∙◌, subst}
use mathlib.Core.Bool.{Bool, true, false}
use mathlib.Core.List.{List, [], ◌∷◌}
use lib.ListN.{length, drop, get_or, set}
use lib.Seq.{sets}
use Rattle.claims.specs.Bytes.{text, same}
use Rattle.claims.specs.Tokens as Notation
use Rattle.claims.specs.Tokens.{tokens, reserved_words, is_reserved}
use Rattle.claims.specs.Grammar.{Found, got, wrong, name_next, test_word}
use Rattle.claims.specs.Tree.{test_name, true_test, false_test, name}
use Rattle.claims.specs.Names.{Use, test_uses, tree_uses, first_slip}
use Rattle.claims.specs.Query.{Query}
use Rattle.codes.specs.Codes.{TRUE, FALSE, A-TEST, A-RELATION, LINE, code_of, test_codes, tree_codes}
use Rattle.read_tokens.specs.declared.Key.{Key}
use Rattle.read_tokens.specs.declared.Token.{Token}
use Rattle.read_tokens.specs.declared.Token.TheVariants.{Word, Mark, Bad, End}
use Rattle.read_tokens.specs.Scan.{key_of, token_at}
use Rattle.read_names.specs.Keys.{same_key, reserved_key, word_key, find_in, Knows}
use Rattle.read_tokens.proofs.Tokens.{Scanned, ScannedWord, tokens_scanned}
use types.Run.{miss}
use Rattle.read_names.proofs.Names.{same_key_lem, reserved_name_lem, reserved_is_reserved}
use Rattle.std.specs.Prelude.{Ok}
use Rattle.read_tests.specs.declared.Place.{Place}
use Rattle.read_tests.specs.Places.{Moved, Read, TestOutcome, TreeOutcome, Is}
use Rattle.read_next.proofs.Next.{NoWord}
use Rattle.read_names.specs.declared.Slip.{Slip}
use Rattle.read_names.specs.Slips.{slip_by, first_of, slip_of_code}
use Rattle.read_names.proofs.Slips.{no_slip, test_slip_lem, either_slip_lem}

-- what the token u that was found at a position says of the line
pub scanned : (s : List ℕ) (at : ℕ) {t u : Token} → t ≡ token_at s at → t ≡ u → Scanned s at u
scanned s at e h = subst (Scanned s at) (sym e ∙ h) (tokens_scanned s at)

-- the place behind a word that took one code
abbrev pub stepped : Place → ℕ → Slip → Place
stepped p next slip = record { at = next; used = p.used + 1; slip = slip }

word_moved : (s : List ℕ) (p : Place) (k : Key) (next : ℕ) (slip : Slip) → ScannedWord s p.at k next → Moved s p (stepped p next slip)
word_moved s p k next slip w =
    record {
      onward = w.after;
      within = w.within;
      room = omega (arith, w.after, w.within);
      fewer = omega (arith, ap length w.read);
    }

module _ {A : Type 0} (Reads : List Notation.Token → Found A → Type 0) (codes : Query → A → List ℕ) (uses : A → List Use) (s names : List ℕ)
    (n : ℕ) (p : Place) (before : List ℕ) where
  word_read : (t : A) (k : Key) (c next : ℕ) (slip : Slip) → ScannedWord s p.at k next → Reads (tokens (drop p.at s)) (got t (tokens (drop next s)))
      → ((q : Query) → Knows names n q → codes q t ≡ c ∷ [])
      → ((q : Query) → Knows names n q → slip ≡ first_of p.slip (slip_by (first_slip q (uses t))))
      → Read Reads codes uses s names n p before (set before p.used c) (stepped p next slip)
  word_read t k c next slip w r h e =
      record {
        tree = t;
        read = r;
        moved = word_moved s p k next slip w;
        told =
            λ q known. record {
              written = ap (sets before p.used) (sym (h q known));
              used = omega (arith, ap length (h q known));
              slip = e q known;
            };
      }

-- the word w stands next
module _ (w : List ℕ) (ts us : List Notation.Token) (read : ts ≡ Notation.word w ∷ us) where
  says_true : same (text "true") w ≡ true → test_word ts ≡ got true_test us
  unfolding test_word name_next
  says_true h = rw (read, h)

  says_false : same (text "true") w ≡ false → same (text "false") w ≡ true → test_word ts ≡ got false_test us
  unfolding test_word name_next
  says_false g h = rw (read, g, h)

  test_reserved : same (text "true") w ≡ false → same (text "false") w ≡ false → is_reserved w ≡ true → test_word ts ≡ wrong
  unfolding test_word name_next
  test_reserved g h r = rw (read, g, h, r, name_next)

  test_named : same (text "true") w ≡ false → same (text "false") w ≡ false → is_reserved w ≡ false → test_word ts ≡ got (test_name w) us
  unfolding test_word name_next
  test_named g h r = rw (read, g, h, r, name_next)

  name_reserved : is_reserved w ≡ true → name_next name ts ≡ wrong
  unfolding name_next
  name_reserved r = rw (read, r, name_next)

  name_named : is_reserved w ≡ false → name_next name ts ≡ got (name w) us
  unfolding name_next
  name_named r = rw (read, r, name_next)

-- the word with the key k was found, and ends at `next`
module _ (s names : List ℕ) (n : ℕ) (p : Place) (before : List ℕ) (k : Key) (next : ℕ) (f : ScannedWord s p.at k next) where
  key_says : (m : ℕ) (x : Key) (b : Bool) → m < 14 → x ≡ word_key m → b ≡ same_key x k → b ≡ same (get_or reserved_words m []) f.spelling
  unfolding word_key
  key_says m x b h e g =
      g ∙ ap (λ y. same_key y k) e ∙ ap (same_key (key_of (get_or reserved_words m []))) f.key
      ∙ same_key_lem (get_or reserved_words m []) f.spelling (reserved_name_lem m h) f.spelled

  key_true : (x : Key) (b : Bool) → x ≡ word_key 12 → b ≡ same_key x k → b ≡ same (text "true") f.spelling
  unfolding reserved_words
  key_true x b e g = key_says 12 x b (omega arith) e g

  key_false : (x : Key) (b : Bool) → x ≡ word_key 13 → b ≡ same_key x k → b ≡ same (text "false") f.spelling
  unfolding reserved_words
  key_false x b e g = key_says 13 x b (omega arith) e g

  key_reserved : {b c : Bool} → b ≡ reserved_key k → b ≡ c → is_reserved f.spelling ≡ c
  key_reserved e h = sym (e ∙ ap reserved_key f.key ∙ reserved_is_reserved f.spelling f.spelled) ∙ h

  -- a name: its code is looked up, and a slip of it remembered
  name_taken : {A : Type 0} (Reads : List Notation.Token → Found A → Type 0) (codes : Query → A → List ℕ) (uses : A → List Use) (t : A)
      (low high : ℕ) → Reads (tokens (drop p.at s)) (got t (tokens (drop next s)))
      → ((q : Query) → codes q t ≡ code_of q f.spelling ∷ [])
      → ((q : Query) → Knows names n q → slip_of_code low high (code_of q f.spelling) ≡ slip_by (first_slip q (uses t)))
      → (c : ℕ) (i slip : Slip) → c ≡ find_in n names k → i ≡ slip_of_code low high c → slip ≡ first_of p.slip i
      → Read Reads codes uses s names n p before (set before p.used c) (stepped p next slip)
  name_taken Reads codes uses t low high r is slips c i slip e g l =
      let known_as : (q : Query) → Knows names n q → c ≡ code_of q f.spelling =
      λ q known. e ∙ ap (find_in n names) f.key ∙ known.codes f.spelling f.spelled in
      word_read Reads codes uses s names n p before t k c next slip f r (λ q known. is q ∙ ap (λ m. m ∷ []) (sym (known_as q known)))
      (λ q known. l ∙ ap (first_of p.slip) (g ∙ ap (slip_of_code low high) (known_as q known) ∙ slips q known))

  -- where a test is wanted, `true` and `false` come first
  module _ (x : Key) (a : Bool) (x-is : x ≡ word_key 12) (a-is : a ≡ same_key x k) where
    pub word_true : a ≡ true → TestOutcome (Is test_word) s names n p before (set before p.used TRUE) (Ok (stepped p next p.slip))
    unfolding test_codes test_uses
    word_true h =
        word_read (Is test_word) test_codes test_uses s names n p before true_test k TRUE next p.slip f
        (says_true f.spelling (tokens (drop p.at s)) (tokens (drop next s)) f.read (sym (key_true x a x-is a-is) ∙ h))
        (λ q _. refl) (λ q _. no_slip q p.slip)

    module _ (y : Key) (b : Bool) (no : a ≡ false) (y-is : y ≡ word_key 13) (b-is : b ≡ same_key y k) where
      not-true : same (text "true") f.spelling ≡ false
      not-true = sym (key_true x a x-is a-is) ∙ no

      pub word_false : b ≡ true → TestOutcome (Is test_word) s names n p before (set before p.used FALSE) (Ok (stepped p next p.slip))
      unfolding test_codes test_uses
      word_false h =
          word_read (Is test_word) test_codes test_uses s names n p before false_test k FALSE next p.slip f
          (says_false f.spelling (tokens (drop p.at s)) (tokens (drop next s)) f.read not-true (sym (key_false y b y-is b-is) ∙ h))
          (λ q _. refl) (λ q _. no_slip q p.slip)

      module _ (d : Bool) (neither : b ≡ false) (d_is : d ≡ reserved_key k) where
        not-false : same (text "false") f.spelling ≡ false
        not-false = sym (key_false y b y-is b-is) ∙ neither

        pub word_reserved : d ≡ true → test_word (tokens (drop p.at s)) ≡ wrong
        word_reserved h =
            test_reserved f.spelling (tokens (drop p.at s)) (tokens (drop next s)) f.read not-true not-false (key_reserved d_is h)

        pub word_named : (c : ℕ) (i slip : Slip) → d ≡ false → c ≡ find_in n names k → i ≡ slip_of_code A-TEST A-RELATION c → slip ≡ first_of p.slip i
            → TestOutcome (Is test_word) s names n p before (set before p.used c) (Ok (stepped p next slip))
        unfolding test_codes test_uses
        word_named c i slip h =
            name_taken (Is test_word) test_codes test_uses (test_name f.spelling) A-TEST A-RELATION
            (test_named f.spelling (tokens (drop p.at s)) (tokens (drop next s)) f.read not-true not-false (key_reserved d_is h))
            (λ q. refl) (λ q known. test_slip_lem names n q known f.spelling) c i slip

  -- where a relation or a let is wanted
  module _ (d : Bool) (d_is : d ≡ reserved_key k) where
    pub named_reserved : d ≡ true → name_next name (tokens (drop p.at s)) ≡ wrong
    named_reserved h = name_reserved f.spelling (tokens (drop p.at s)) (tokens (drop next s)) f.read (key_reserved d_is h)

    pub named_taken : (c : ℕ) (i slip : Slip) → d ≡ false → c ≡ find_in n names k → i ≡ slip_of_code A-RELATION LINE c → slip ≡ first_of p.slip i
        → TreeOutcome (Is (name_next name)) s names n p before (set before p.used c) (Ok (stepped p next slip))
    unfolding tree_codes tree_uses
    named_taken c i slip h =
        name_taken (Is (name_next name)) tree_codes tree_uses (name f.spelling) A-RELATION LINE
        (name_named f.spelling (tokens (drop p.at s)) (tokens (drop next s)) f.read (key_reserved d_is h))
        (λ q. refl) (λ q known. either_slip_lem names n q known f.spelling) c i slip

-- what was found is no word, and so a mark, a bad token or nothing stands next
no_word_next : (P : List Notation.Token → Type 0) → P [] → ((b : ℕ) (ts : List Notation.Token) → P (Notation.mark b ∷ ts))
    → ((ts : List Notation.Token) → P (Notation.bad ∷ ts)) → (s : List ℕ) (at : ℕ) (t : Token) → Scanned s at t → NoWord t → P (tokens (drop at s))
no_word_next P e m b s at (Word k i) f h = absurd (miss (1 ∷ 2 ∷ 3 ∷ []) 0 tt h)
no_word_next P e m b s at (Mark c i) f h = subst P (sym f.read) (m c (tokens (drop i s)))
no_word_next P e m b s at Bad f h = subst P (sym f.1) (b f.0)
no_word_next P e m b s at End f h = subst P (sym f) e

module _ (s : List ℕ) (at : ℕ) {t : Token} (found : t ≡ token_at s at) (no : NoWord t) where
  pub test_no_word : test_word (tokens (drop at s)) ≡ wrong
  unfolding test_word name_next
  test_no_word = no_word_next (λ ts. test_word ts ≡ wrong) refl (λ b ts. refl) (λ ts. refl) s at t (scanned s at found refl) no

  pub name_no_word : name_next name (tokens (drop at s)) ≡ wrong
  unfolding name_next
  name_no_word = no_word_next (λ ts. name_next name ts ≡ wrong) refl (λ b ts. refl) (λ ts. refl) s at t (scanned s at found refl) no
