-- What an argument changes, and which call it is in the end, by the tests on the way.
-- Assumes nothing.
use Prim.Native.Nat.{ℕ, ◌≤◌, ◌<◌}
use native.Mathlib.Omega.{arith}
use mathlib.Core.Path.{◌≡◌, sym, ◌∙◌, ap}
use mathlib.Core.Bool.{Bool, true, false, cond}
use mathlib.Core.List.{List}
use lib.Dec.{eqb}
use borrow.Author.Tests.{lt-ltb, le-ltb, eq-eqb, ne_eqb}
use Rattle.arguments.specs.declared.Verb.{Verb}
use Rattle.arguments.specs.declared.Kind.{Kind}
use Rattle.arguments.specs.declared.Kind.TheVariants as kinds
use Rattle.arguments.specs.ArgumentWords.{verb_of, kind_of, allowance_in}
use Rattle.arguments.specs.declared.Wanted.{Wanted}
use Rattle.arguments.specs.declared.Seen.{Seen}
use Rattle.arguments.specs.declared.Call.{Call}
use Rattle.arguments.specs.declared.Call.TheVariants as calls
use Rattle.arguments.specs.inner.Wanted.{wanted_by}
use Rattle.arguments.specs.Arguments.{nothing_behind, begun, wrong_at, with_count, with_file, with_argument, taken, called, asks}

-- the first argument
module _ (v : Verb) (i : ℕ) (t : Wanted) (e : t ≡ wanted_by v) where
  pub begun_known : t.known ≡ true → nothing_behind v ≡ begun v i
  unfolding begun
  begun_known h = let k : (wanted_by v).known ≡ true = sym (ap (λ (x : Wanted). x.known) e) ∙ h in rw k

  pub begun_unknown : t.known ≡ false → wrong_at (nothing_behind v) i ≡ begun v i
  unfolding begun
  begun_unknown h = let k : (wanted_by v).known ≡ false = sym (ap (λ (x : Wanted). x.known) e) ∙ h in rw k

-- a file
module _ (s : Seen) (i : ℕ) (t : Wanted) (e : t ≡ wanted_by s.verb) where
  files : t.files ≡ (wanted_by s.verb).files
  files = ap (λ (x : Wanted). x.files) e

  pub file_query : s.query ≡ 0 → 0 < t.files
      → record { verb = s.verb; allowance = s.allowance; counting = false; dot = s.dot; query = i; sheet = 0; wrong = 0 } ≡ with_file s i
  unfolding with_file
  file_query q h = let f = files in rw (eq-eqb s.query 0 q, lt-ltb 0 (wanted_by s.verb).files (omega arith))

  pub file_none : s.query ≡ 0 → t.files ≤ 0 → wrong_at s i ≡ with_file s i
  unfolding with_file
  file_none q h = let f = files in rw (eq-eqb s.query 0 q, le-ltb 0 (wanted_by s.verb).files (omega arith))

  pub file_sheet : (s.query ≡ 0 → ⊥) → s.sheet ≡ 0 → 1 < t.files
      → record { verb = s.verb; allowance = s.allowance; counting = false; dot = s.dot; query = s.query; sheet = i; wrong = 0 } ≡ with_file s i
  unfolding with_file
  file_sheet q p h =
      let f = files in
      rw (ne_eqb s.query 0 q, eq-eqb s.sheet 0 p, lt-ltb 1 (wanted_by s.verb).files (omega arith))

  pub file_second : (s.query ≡ 0 → ⊥) → s.sheet ≡ 0 → t.files ≤ 1 → wrong_at s i ≡ with_file s i
  unfolding with_file
  file_second q p h =
      let f = files in
      rw (ne_eqb s.query 0 q, eq-eqb s.sheet 0 p, le-ltb 1 (wanted_by s.verb).files (omega arith))

  pub file_third : (s.query ≡ 0 → ⊥) → (s.sheet ≡ 0 → ⊥) → wrong_at s i ≡ with_file s i
  unfolding with_file
  file_third q p = rw (ne_eqb s.query 0 q, ne_eqb s.sheet 0 p)

  -- the two options
  pub option_allowance : (k : Kind) → k ≡ kinds.Allowance → t.allowance ≡ true
      → record { verb = s.verb; allowance = s.allowance; counting = true; dot = s.dot; query = s.query; sheet = s.sheet; wrong = 0 }
      ≡ with_argument s k i
  unfolding with_argument
  option_allowance k ek h =
      let a : (wanted_by s.verb).allowance ≡ true = sym (ap (λ (x : Wanted). x.allowance) e) ∙ h in rw (ek, a)

  pub no_allowance : (k : Kind) → k ≡ kinds.Allowance → t.allowance ≡ false → wrong_at s i ≡ with_argument s k i
  unfolding with_argument
  no_allowance k ek h =
      let a : (wanted_by s.verb).allowance ≡ false = sym (ap (λ (x : Wanted). x.allowance) e) ∙ h in rw (ek, a)

  pub option_dot : (k : Kind) → k ≡ kinds.Dot → t.draws ≡ true
      → record { verb = s.verb; allowance = s.allowance; counting = false; dot = true; query = s.query; sheet = s.sheet; wrong = 0 }
      ≡ with_argument s k i
  unfolding with_argument
  option_dot k ek h =
      let a : (wanted_by s.verb).draws ≡ true = sym (ap (λ (x : Wanted). x.draws) e) ∙ h in rw (ek, a)

  pub no_dot : (k : Kind) → k ≡ kinds.Dot → t.draws ≡ false → wrong_at s i ≡ with_argument s k i
  unfolding with_argument
  no_dot k ek h =
      let a : (wanted_by s.verb).draws ≡ false = sym (ap (λ (x : Wanted). x.draws) e) ∙ h in rw (ek, a)

-- one more argument
module _ (s : Seen) (w : List ℕ) (i : ℕ) where
  pub taken_wrong : 0 < s.wrong → s ≡ taken s w i
  unfolding taken
  taken_wrong h = rw (lt-ltb 0 s.wrong h)

  pub taken_first : s.wrong ≤ 0 → i ≡ 1 → begun (verb_of w) i ≡ taken s w i
  unfolding taken
  taken_first h e = rw (le-ltb 0 s.wrong h, eq-eqb i 1 e)

  pub taken_count : s.wrong ≤ 0 → (i ≡ 1 → ⊥) → s.counting ≡ true → with_count s (allowance_in w) i ≡ taken s w i
  unfolding taken
  taken_count h n e = rw (le-ltb 0 s.wrong h, ne_eqb i 1 n, e)

  pub taken_argument : s.wrong ≤ 0 → (i ≡ 1 → ⊥) → s.counting ≡ false → with_argument s (kind_of w) i ≡ taken s w i
  unfolding taken
  taken_argument h n e = rw (le-ltb 0 s.wrong h, ne_eqb i 1 n, e)

-- the call in the end
module _ (s : Seen) where
  pub asks_wrong : 0 < s.wrong → calls.Wrong s.wrong ≡ asks s
  unfolding asks
  asks_wrong h = rw (lt-ltb 0 s.wrong h)

  pub asks_short : s.wrong ≤ 0 → s.counting ≡ true → calls.Short ≡ asks s
  unfolding asks
  asks_short h e = rw (le-ltb 0 s.wrong h, e)

  pub asks_called : (v : Verb) → s.wrong ≤ 0 → s.counting ≡ false → s.verb ≡ v → called v s ≡ asks s
  unfolding asks
  asks_called v h e f = rw (le-ltb 0 s.wrong h, e, f)

-- a file that is missing, and one that is there
pub short_of : {n : ℕ} (x : Call) → n ≡ 0 → calls.Short ≡ cond (eqb n 0) calls.Short x
short_of {n} x e = sym (ap (λ (b : Bool). cond b calls.Short x) (eq-eqb n 0 e))

pub whole_of : {n : ℕ} {x : Call} → (n ≡ 0 → ⊥) → x ≡ cond (eqb n 0) calls.Short x
whole_of {n} {x} h = sym (ap (λ (b : Bool). cond b calls.Short x) (ne_eqb n 0 h))
