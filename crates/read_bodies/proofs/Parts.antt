-- The parts of a line: a T or an E with a code behind it, a line made of one of them, a T in square brackets, and two of them. The idea: each
-- is said in the same form, `Reads`, so that one law writes a code behind it and one makes a line of it.
-- Assumes nothing.
use Prim.Native.Nat.{ℕ, ◌+◌, ◌-◌, ◌≤◌}
use native.Mathlib.Omega.{arith}
use mathlib.Core.Path.{◌≡◌, refl, sym, ap, ◌∙◌, subst⁻¹}
use mathlib.Core.Bool.{true, false}
use mathlib.Core.List.{List, [], ◌∷◌}
use lib.ListN.{length, drop, length-append}
use lib.Seq.{sets}
use Rattle.std.specs.Prelude.{Result, Ok, Err}
use Rattle.claims.specs.Bytes.{byte}
use Rattle.claims.specs.Tokens.{Token, tokens}
use Rattle.claims.specs.Grammar.{Found, got, wrong, and_then, goes_on, past, before_mark}
use Rattle.claims.specs.Tree.{Line}
use Rattle.claims.specs.Lines.{mapped, condition, bracketed}
use Rattle.claims.specs.Names.{Use, uses, test_uses, first_slip}
use Rattle.claims.specs.Query.{Query}
use Rattle.memory.specs.Memory.{zeros}
use Rattle.codes.specs.Codes.{test_codes, line_codes}
use Rattle.read_tokens.proofs.Tokens.{ScannedMark}
use Rattle.read_tests.specs.declared.Place.{Place}
use Rattle.read_tests.specs.declared.Fault.{Fault}
use Rattle.read_tests.specs.declared.Fault.TheVariants.{Wrong, Deep}
use Rattle.read_tests.specs.Places.{ReaderOutcome, Is}
use Rattle.read_names.specs.Keys.{Knows}
use Rattle.read_names.specs.declared.Slip.{Slip}
use Rattle.read_names.specs.declared.Slip.TheVariants.{Clean}
use Rattle.read_names.specs.Slips.{first_of, slip_by}
use Rattle.read_bodies.specs.Bodies.{Ends, Reads, ending, TestThen, BodyOutcome}
use Rattle.read_bodies.specs.inner.Parts.{Fits, one_code, code_stored, Bracketed, limits_reader, limit_codes, limit_uses, LimitsThen}
use Rattle.read_next.specs.Written.{used_after, written_after}
use Rattle.read_next.proofs.Stores.{stores_then, written_room}
use Rattle.read_names.proofs.Slips.{slips_then}
use Rattle.read_next.proofs.Next.{goes_on_lem, passed}

-- there is room for a code
pub code_fits : (s : List ℕ) (at used : ℕ) (after : List ℕ) (r : Result Place Fault) → Ends s at used 0 after r → used + (length s - at) + 1 ≤ 4096 → Fits r
code_fits s at used after (Ok g) e h = omega (arith, e.room)
code_fits s at used after (Err Wrong) e h = tt
code_fits s at used after (Err Deep) e h = tt

-- the place behind a code and the array with it, by what the code did
pub code_written : (g : Place) → Fits (Ok g) → (code used : ℕ) (out out' : List ℕ)
    → (used ≡ used_after g.used 1) × (out' ≡ written_after out g.used 1 code)
    → (Ok (record { at = g.at; used = used; slip = g.slip }) ≡ one_code (Ok g)) × (out' ≡ code_stored code (Ok g) out)
unfolding one_code code_stored
code_written g f code used out out' w =
    let (u, v) = written_room out g.used 1 code used out' w (omega arith) in
    (rw u, v)

pub code_left : (e : Fault) (code : ℕ) (out : List ℕ) → (Err e ≡ one_code (Err e)) × (out ≡ code_stored code (Err e) out)
unfolding one_code code_stored
code_left Wrong code out = (refl, refl)
code_left Deep code out = (refl, refl)

-- a tree, and a tree with a code behind it
module _ {A : Type 0} (D : List Token → Found A) (codes : Query → A → List ℕ) (uses : A → List Use) (s names : List ℕ) (n : ℕ) (p : Place)
    (before mid : List ℕ) where
  pub tree_read : (r : Result Place Fault) → ReaderOutcome (Is D) codes uses s names n p before mid r → Reads D codes uses 0 s names n p before mid r
  tree_read (Ok g) o = (
    record { onward = o.moved.onward; within = o.moved.within; room = omega (arith, o.moved.room) },
    (λ q k. let c = o.told q k in record { tree = o.tree; read = o.read; written = c.written; used = c.used; slip = c.slip }),
  )
  tree_read (Err Wrong) (o, z) = (z, λ q k. o)
  tree_read (Err Deep) (o, z) = (z, λ q k. o)

  pub code_read : (r : Result Place Fault) → Reads D codes uses 0 s names n p before mid r → (code : ℕ) (x : Result Place Fault) (after : List ℕ)
      → (x ≡ one_code r) × (after ≡ code_stored code r mid) → Reads D (ending code codes) uses 1 s names n p before after x
  unfolding one_code code_stored
  code_read r w code x after (e, f) = subst⁻¹ (Reads D (ending code codes) uses 1 s names n p before after) e (go r w f)
    where
      go : (r : Result Place Fault) → Reads D codes uses 0 s names n p before mid r → after ≡ code_stored code r mid
          → Reads D (ending code codes) uses 1 s names n p before after (one_code r)
      go (Ok g) (a, b) f = (
        record { onward = a.onward; within = a.within; room = omega (arith, a.room) },
        (λ q k. let o = b q k in
            record {
              tree = o.tree;
              read = o.read;
              written = stores_then before p.used (codes q o.tree) (code ∷ []) mid after g.used o.written o.used f;
              used = omega (arith, o.used, length-append (codes q o.tree) (code ∷ []));
              slip = o.slip;
            }),
      )
      go (Err Wrong) (a, b) f = (f ∙ a, b)
      go (Err Deep) (a, b) f = (f ∙ a, b)

-- A line made of one tree, which was read from a later place on where the slip i was remembered. What is wanted of the line: its sort, its
-- slip, and its codes where no name has a slip.
pub record Makes {A : Type 0} (codes' : Query → A → List ℕ) (uses' : A → List Use) (K : Line → Type 0) (i : Slip) (q : Query) (l : Line) (a : A) : Type 0 where
  pub sort : K l
  pub slip : first_of i (slip_by (first_slip q (uses' a))) ≡ slip_by (first_slip q (uses l))
  pub codes : first_of i (slip_by (first_slip q (uses' a))) ≡ Clean → codes' q a ≡ line_codes q l
  pub count : length (codes' q a) ≡ length (line_codes q l)

pub tree_line : {A : Type 0} (R : List Token → Found A) (codes : Query → A → List ℕ) (uses' : A → List Use) (D : List Token → Found Line)
    (K : Line → Type 0) (kind : A → Line) (s names : List ℕ) (n at later used : ℕ) (i : Slip) (before after : List ℕ)
    → D (tokens (drop at s)) ≡ mapped kind (R (tokens (drop later s))) → at ≤ later
    → ((q : Query) → Knows names n q → (a : A) → Makes codes uses' K i q (kind a) a)
    → (r : Result Place Fault) → Reads R codes uses' 1 s names n (record { at = later; used = used; slip = i }) before after r
    → BodyOutcome D K s names n at used before after r
tree_line R codes uses' D K kind s names n at later used i before after e h makes (Ok g) (a, b) = (
  record { onward = omega (arith, a.onward); within = a.within; room = omega (arith, a.room) },
  (λ q k. let o = b q k in
      let m = makes q k o.tree in
      record {
        line = kind o.tree;
        sort = m.sort;
        read = e ∙ ap (mapped kind) o.read;
        slip = o.slip ∙ m.slip;
        written = λ z. o.written ∙ ap (sets before used) (m.codes (sym o.slip ∙ z));
        used = o.used ∙ ap (λ j. used + j) m.count;
      }),
)
tree_line R codes uses' D K kind s names n at later used i before after e h makes (Err Wrong) (a, b) = (a, λ q k. e ∙ ap (mapped kind) (b q k))
tree_line R codes uses' D K kind s names n at later used i before after e h makes (Err Deep) (a, b) = (a, λ q k. e ∙ ap (mapped kind) (b q k))

-- a T in square brackets
pub bracket_missing : (ts : List Token) → goes_on 91 ts ≡ false → bracketed ts ≡ wrong
unfolding bracketed
bracket_missing ts e = rw (e, bracketed)

bracket_opened : (ts : List Token) → goes_on 91 ts ≡ true → bracketed ts ≡ and_then (condition (past ts)) (λ t us. before_mark (byte "]") t us)
unfolding bracketed
bracket_opened ts e = rw (e, bracketed)

closed_by : {A : Type 0} (a : A) (ts : List Token) → goes_on 93 ts ≡ true → before_mark (byte "]") a ts ≡ got a (past ts)
unfolding before_mark
closed_by a ts e = rw (e, before_mark)

module _ (s names : List ℕ) (n : ℕ) (p : Place) (next : ℕ) (m : ScannedMark s p.at 91 next) where
  abbrev inside : Place
  inside = record { at = next; used = p.used; slip = p.slip }

  opened : bracketed (tokens (drop p.at s)) ≡ and_then (condition (tokens (drop next s))) (λ t us. before_mark (byte "]") t us)
  opened =
      bracket_opened (tokens (drop p.at s)) (goes_on_lem s p.at 91 next m)
      ∙ ap (λ ts. and_then (condition ts) (λ t us. before_mark (byte "]") t us)) (passed s p.at 91 next m)

  pub bracket_failed : (before after : List ℕ) (e : Fault) → TestThen 6 s names n inside before after (Err e) → Bracketed s names n p before after (Err e)
  bracket_failed before after Wrong (a, b) = (a, λ q k. opened ∙ ap (λ x. and_then x (λ t us. before_mark (byte "]") t us)) (b q k))
  bracket_failed before after Deep (a, b) = (a, λ q k. opened ∙ ap (λ x. and_then x (λ t us. before_mark (byte "]") t us)) (b q k))

  module _ (before after : List ℕ) (g : Place) (found : TestThen 6 s names n inside before after (Ok g)) where
    read_inside : (q : Query) (k : Knows names n q)
        → bracketed (tokens (drop p.at s)) ≡ before_mark (byte "]") (found.1 q k).tree (tokens (drop g.at s))
    read_inside q k = opened ∙ ap (λ x. and_then x (λ t us. before_mark (byte "]") t us)) (found.1 q k).read

    pub bracket_unclosed : goes_on 93 (tokens (drop g.at s)) ≡ false → (left : List ℕ) → left ≡ zeros 4096 → Bracketed s names n p before left (Err Wrong)
    unfolding before_mark
    bracket_unclosed h left z = (z, λ q k. read_inside q k ∙ rw (h, before_mark))

    pub bracket_got : (end : ℕ) → ScannedMark s g.at 93 end
        → Bracketed s names n p before after (Ok (record { at = end; used = g.used; slip = g.slip }))
    bracket_got end h =
        let b = found.0 in (
          record {
            onward = omega (arith, m.after, b.onward, h.after);
            within = h.within;
            room = omega (arith, m.after, m.within, b.room, b.within, h.after, h.within);
          },
          (λ q k. let o = found.1 q k in
              record {
                tree = o.tree;
                read =
                    read_inside q k ∙ closed_by o.tree (tokens (drop g.at s)) (goes_on_lem s g.at 93 end h)
                    ∙ ap (got o.tree) (passed s g.at 93 end h);
                written = o.written;
                used = o.used;
                slip = o.slip;
              }),
        )

-- two of them
module _ (s names : List ℕ) (n : ℕ) (p : Place) (before first : List ℕ) where
  pub limits_failed : (e : Fault) → Bracketed s names n p before first (Err e) → (code : ℕ) → LimitsThen code s names n p before first (Err e)
  unfolding limits_reader
  limits_failed Wrong (a, b) code = (a, λ q k. rw (b q k))
  limits_failed Deep (a, b) code = (a, λ q k. rw (b q k))

  pub limits_read : (g : Place) → Bracketed s names n p before first (Ok g) → (second : List ℕ) (u : Result Place Fault)
      → Bracketed s names n g first second u → Reads limits_reader limit_codes limit_uses 0 s names n p before second u
  unfolding limits_reader
  limits_read g w second u v = go u w v
    where
      go : (u : Result Place Fault) → Bracketed s names n p before first (Ok g) → Bracketed s names n g first second u
          → Reads limits_reader limit_codes limit_uses 0 s names n p before second u
      go (Ok h) (a, b) (c, d) = (
        record { onward = omega (arith, a.onward, c.onward); within = c.within; room = omega (arith, a.room, c.room) },
        (λ q k. let x = b q k in
            let y = d q k in
            let cs = ending 6 test_codes q x.tree in
            let ds = ending 6 test_codes q y.tree in
            record {
              tree = record { from = x.tree; to = y.tree };
              read = rw (x.read, y.read);
              written = stores_then before p.used cs ds first second g.used x.written x.used y.written;
              used = omega (arith, x.used, y.used, length-append cs ds);
              slip = slips_then q (test_uses x.tree) (test_uses y.tree) p.slip g.slip h.slip x.slip y.slip;
            }),
      )
      go (Err Wrong) (a, b) (c, d) = (c, λ q k. rw ((b q k).read, d q k))
      go (Err Deep) (a, b) (c, d) = (c, λ q k. rw ((b q k).read, d q k))
