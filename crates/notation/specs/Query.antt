-- What an accepted query says: its tests, relations, lets, limits, assumptions and claim. (Document 01, "The query".) A query is the
-- list of its lines. Tests and relations are numbered from 0 as declared; limits apply to the whole query wherever they stand.
-- Assumes nothing.
use Rattle.std.specs.Prelude.{ℕ, suc, ◌/◌, ◌%◌, ◌^◌, Bool, true, false, not as flip, ◌&&◌, ◌||◌, List, [], ◌∷◌, ◌++◌, map, eqb, length}
use Rattle.kat.specs.Lists.{upto, filter, some}
use Rattle.notation.specs.Bytes.{same}
use Rattle.notation.specs.Tree.{Name, TestTree, test_name, true_test, false_test, either, both, not, Tree, Claim, includes, empty, irreflexive, Line}
use Rattle.notation.specs.LineKinds.{test_kind, rel_kind, let_kind, never_kind, within_kind, closed_kind, assume_kind, claim_kind, line_name, line_conditions, line_expressions, line_statements, if_kind}

-- a query is the list of its lines ("The query")
abbrev pub Query : Type 0
Query = List Line

-- a name with what it stands for ("The query")
pub record Bound (A : Type 0) : Type 0 where
  pub called : Name
  pub means : A

-- the two tests of a `within` line ("The query")
pub record Limit : Type 0 where
  pub from : TestTree
  pub to : TestTree

module _ {A B : Type 0} where
  -- what each line or each statement gives, in their order ("The query")
  abbrev pub each : (B → List A) → List B → List A
  each f [] = []
  each f (b ∷ bs) = f b ++ each f bs

module _ {A : Type 0} where
  -- what a name is bound to, or d ("The query")
  abbrev pub lookup : A → Name → List (Bound A) → A
  lookup d n [] = d
  lookup d n (b ∷ bs) = elim (same n b.called) [ true ↦ b.means | false ↦ lookup d n bs ]

  -- each name with what w gives it ("The query")
  abbrev pub bound : (Name → A) → List Name → List (Bound A)
  bound w [] = []
  bound w (n ∷ ns) = record { called = n; means = w n } ∷ bound w ns

  -- each let, in order, with what f makes of its expression over the names before it ("The query")
  abbrev pub bound_lets : (List (Bound A) → Tree → A) → List (Bound A) → List (Bound Tree) → List (Bound A)
  bound_lets f env [] = env
  bound_lets f env (b ∷ bs) = bound_lets f (env ++ (record { called = b.called; means = f env b.means } ∷ [])) bs

-- the place of a name in a list of names, from 0 ("The query")
abbrev pub index_of : Name → List Name → ℕ
index_of n [] = 0
index_of n (m ∷ ms) = elim (same n m) [ true ↦ 0 | false ↦ suc (index_of n ms) ]

-- the test that a line declares ("The query")
unfoldable pub test_names : Line → List Name
test_names l = if_kind test_kind l (line_name l ∷ [])

-- the relation that a line declares ("The query")
unfoldable pub relation_names : Line → List Name
relation_names l = if_kind rel_kind l (line_name l ∷ [])

-- the let that a line declares ("The query")
unfoldable pub lets : Line → List (Bound Tree)
lets l = if_kind let_kind l (map (λ e. record { called = line_name l; means = e }) (line_expressions l))

-- the test of a `never` line ("The query")
unfoldable pub nevers : Line → List TestTree
nevers l = if_kind never_kind l (line_conditions l)

-- two tests as a limit ("The query")
abbrev pub limit_of : List TestTree → List Limit
limit_of [] = []
limit_of (t ∷ []) = []
limit_of (t ∷ (u ∷ ts)) = record { from = t; to = u } ∷ []

-- the limits that a line sets to relation m ("The query")
unfoldable pub limits : Name → Line → List Limit
limits m l = if_kind within_kind l (elim (same m (line_name l)) [ true ↦ limit_of (line_conditions l) | false ↦ [] ])

-- the relation that a line closes ("The query")
unfoldable pub closed_names : Line → List Name
closed_names l = if_kind closed_kind l (line_name l ∷ [])

-- the expression that a statement says to be empty ("The query")
abbrev pub said_empty : Claim → List Tree
said_empty (includes e f) = []
said_empty (empty e) = e ∷ []
said_empty (irreflexive e) = []

-- the expression that a statement says to be irreflexive ("The query")
abbrev pub said_irreflexive : Claim → List Tree
said_irreflexive (includes e f) = []
said_irreflexive (empty e) = []
said_irreflexive (irreflexive e) = e ∷ []

-- the expression that a line assumes empty ("The query")
unfoldable pub assumed_empty : Line → List Tree
assumed_empty l = if_kind assume_kind l (each said_empty (line_statements l))

-- the expression that a line assumes irreflexive ("The query")
unfoldable pub assumed_irreflexive : Line → List Tree
assumed_irreflexive l = if_kind assume_kind l (each said_irreflexive (line_statements l))

-- the claim that a line makes ("The query")
unfoldable pub claims_of : Line → List Claim
claims_of l = if_kind claim_kind l (line_statements l)

-- the tests, numbered from 0 as declared ("The query")
unfoldable pub tests : Query → List Name
tests q = each test_names q

-- the relations, numbered from 0 as declared ("The query")
unfoldable pub relations : Query → List Name
relations q = each relation_names q

-- relation r is closed ("The query")
unfoldable pub closed : Query → Name → Bool
closed q r = some (same r) (each closed_names q)

module _ {A : Type 0} where
  -- the relations with what w gives each, then the lets with what f makes of them ("The query")
  unfoldable pub names : Query → (Name → A) → (List (Bound A) → Tree → A) → List (Bound A)
  names q w f = bound_lets f (bound w (relations q)) (each lets q)

-- bit i of a is set ("Words")
unfoldable pub bit : ℕ → ℕ → Bool
bit i a = eqb (a / 2 ^ i % 2) 1

-- an event with atom a satisfies T: test i holds where the atom has bit i ("Words")
unfoldable pub holds : List Name → TestTree → ℕ → Bool
holds ns (test_name n) a = bit (index_of n ns) a
holds ns true_test a = true
holds ns false_test a = false
holds ns (either t u) a = holds ns t a || holds ns u a
holds ns (both t u) a = holds ns t a && holds ns u a
holds ns (not t) a = flip (holds ns t a)

-- how many atoms there are: numbers from 0 to below this ("Words")
unfoldable pub atoms : Query → ℕ
atoms q = 2 ^ length (tests q)

-- an atom under a `never` is removed ("Words")
unfoldable pub removed : Query → ℕ → Bool
removed q a = some (λ t. holds (tests q) t a) (each nevers q)

-- the atoms that are not removed, rising ("Words")
unfoldable pub live : Query → List ℕ
live q = filter (λ a. flip (removed q a)) (upto 0 (atoms q))
