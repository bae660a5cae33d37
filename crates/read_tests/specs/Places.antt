-- What a reader of T or of E leaves behind. (Document 01, "The query".) It goes through a line from one place to another, and writes the
-- codes of the tree that it reads, children before parents. A slip of a name is remembered and not refused, since a fault of the
-- notation further on in the line comes first.
-- Assumes nothing.
use Rattle.std.specs.Prelude.{ℕ, ◌+◌, ◌*◌, ◌-◌, ◌≤◌, ◌<◌, ◌≡◌, Result, Ok, Err, List, length, drop}
use Rattle.std.proofs.lemmas.List.Edits.{sets}
use Rattle.claims.specs.Tokens.{Token, tokens}
use Rattle.claims.specs.Grammar.{Found, got, wrong, deep}
use Rattle.claims.specs.Tree.{TestTree, Tree}
use Rattle.claims.specs.Names.{Use, test_uses, tree_uses, first_slip}
use Rattle.claims.specs.Query.{Query}
use Rattle.memory.specs.Memory.{zeros}
use Rattle.codes.specs.Codes.{test_codes, tree_codes}
use Rattle.read_names.specs.Keys.{Knows}
use Rattle.read_tests.specs.declared.Place.{Place}
use Rattle.read_tests.specs.declared.Fault.{Fault}
use Rattle.read_tests.specs.declared.Fault.TheVariants.{Wrong, Deep}
use Rattle.read_names.specs.Slips.{slip_by, first_of}

-- the memory for codes has room for the rest of the line: each code takes a byte of the line at least
abbrev pub Room : List ℕ → Place → Type 0
Room s p = p.used + (length s - p.at) ≤ 4096

-- the place r stands behind a tree that begins at p
pub record Moved (s : List ℕ) (p r : Place) : Type 0 where
  pub onward : p.at < r.at
  pub within : r.at ≤ length s
  pub room : r.used + (length s - r.at) ≤ p.used + (length s - p.at)
  pub fewer : length (tokens (drop r.at s)) < length (tokens (drop p.at s))

-- between the places p and r the codes cs were stored, from the first unused word on, and nothing else; and of the names that stand
-- there, and the slips before them, the first slip is remembered
pub record Told (q : Query) (p : Place) (before after : List ℕ) (r : Place) (cs : List ℕ) (us : List Use) : Type 0 where
  pub written : after ≡ sets before p.used cs
  pub used : r.used ≡ p.used + length cs
  pub slip : r.slip ≡ first_of p.slip (slip_by (first_slip q us))

-- What a reader answers from the place p on. `Reads ts x` says that the grammar finds x in the tokens ts: a tree, a fault of the
-- notation, or the 33rd open bracket. The codes are those of whichever lines q declare the names of the table. After a fault the
-- memory for codes is all 0.
module _ {A : Type 0} (Reads : List Token → Found A → Type 0) (codes : Query → A → List ℕ) (uses : A → List Use) (s names : List ℕ) (n : ℕ)
    (p : Place) (before after : List ℕ) where
  pub record Read (r : Place) : Type 0 where
    pub tree : A
    pub read : Reads (tokens (drop p.at s)) (got tree (tokens (drop r.at s)))
    pub moved : Moved s p r
    pub told : (q : Query) → Knows names n q → Told q p before after r (codes q tree) (uses tree)

  abbrev pub ReaderOutcome : Result Place Fault → Type 0
  ReaderOutcome (Ok r) = Read r
  ReaderOutcome (Err Wrong) = Reads (tokens (drop p.at s)) wrong × (after ≡ zeros 4096)
  ReaderOutcome (Err Deep) = Reads (tokens (drop p.at s)) deep × (after ≡ zeros 4096)

-- a reader of T
abbrev pub TestOutcome : (List Token → Found TestTree → Type 0) → List ℕ → List ℕ → ℕ → Place → List ℕ → List ℕ → Result Place Fault → Type 0
TestOutcome Reads s names n p before after r = ReaderOutcome Reads test_codes test_uses s names n p before after r

-- a reader of E
abbrev pub TreeOutcome : (List Token → Found Tree → Type 0) → List ℕ → List ℕ → ℕ → Place → List ℕ → List ℕ → Result Place Fault → Type 0
TreeOutcome Reads s names n p before after r = ReaderOutcome Reads tree_codes tree_uses s names n p before after r

-- The reader D of the grammar, at d open brackets, finds x in the tokens ts with any depth of calls that is enough for them: 8 for each
-- token, and k more.
abbrev pub Finds : {A : Type 0} → (ℕ → ℕ → List Token → Found A) → ℕ → ℕ → List Token → Found A → Type 0
Finds D d k ts x = (f : ℕ) → 8 * length ts + k ≤ f → D f d ts ≡ x

-- how many round brackets are open where `depth` more may be opened, 32 in all ("The query")
abbrev pub opened : ℕ → ℕ
opened depth = 32 - depth

-- the reader D of the grammar finds x in the tokens ts
abbrev pub Is : {A : Type 0} → (List Token → Found A) → List Token → Found A → Type 0
Is D ts x = D ts ≡ x
