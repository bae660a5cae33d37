-- What the names of a query count: the relations first, then the lets, each counted over the names before it. A name that is declared
-- before a line counts the same where the line stands as in the whole query, so that each let counts what its expression counts over all
-- the names, and the code of a name counts what the name does.
-- Assumes nothing.
use Prim.Native.Nat.{ℕ, ◌+◌, ◌<◌}
use native.Mathlib.Omega.{arith}
use mathlib.Core.Path.{◌≡◌, refl, sym, ◌∙◌, ap, ap₂}
use mathlib.Core.Logic.{⊎_elim}
use mathlib.Core.Bool.{true}
use mathlib.Core.List.{List, [], ◌∷◌, ◌++◌, map, map-append}
use mathlib.Core.Option.{some, none}
use lib.ListN.{length, get_or, length-map, get_or-append}
use lib.Seq.{get_or_at}
use Rattle.claims.specs.Tree.{Name, Tree, let_line}
use Rattle.claims.specs.Names.{a_relation, a_let, uses_either, kind_of, slip}
use Rattle.claims.specs.Query.{Query, Bound, lookup, each, index_of, names, lets, relations}
use Rattle.claims.specs.Counting.{count}
use Rattle.claims.proofs.Results.{each_append}
use Rattle.codes.specs.Codes.{let_names, kind_code, code_of}
use Rattle.side_limits.specs.Tally.{weight}
use Rattle.side_limits.proofs.Weights.{relation_weight, let_weight, weight_same}
use Rattle.codes.proofs.Names.{has, index_lt}
use Rattle.codes.proofs.Orderly.{Orderly, Settled}
use Rattle.codes.proofs.Bindings.{let_line_lem, count_grows, relation_bound, let_bound}
pub use Rattle.codes.proofs.Bindings.{relation_or_let, relation_place, relation_in, let_in}

module _ (q : Query) (t : ℕ) (w : Name → ℕ) where
  -- what an expression counts over the names of the whole query
  unfoldable pub over : Tree → ℕ
  over e = count t (names q w (count t)) e

  -- what the lets of a list count
  abbrev pub over_lets : List (Bound Tree) → List ℕ
  over_lets bs = map (λ b. over b.means) bs

  -- the code of a name counts what the name is bound to
  module _ (v : ℕ → ℕ) (agree : (n : Name) → has n (relations q) ≡ true → v (index_of n (relations q)) ≡ w n) (o : Orderly [] q) where
    module _ (p r : Query) (z : p ++ r ≡ q) (s : Settled p) (n : Name) where
      relation_named : kind_of p n ≡ some a_relation → weight t v (over_lets (each lets p)) (code_of p n) ≡ lookup 0 n (names q w (count t))
      unfolding code_of kind_code
      relation_named k =
          let in_p : has n (relations p) ≡ true = relation_in p n s k in
          let (at, inQ) = relation_place q p r z n in_p in
          ap (λ x. weight t v (over_lets (each lets p)) (kind_code p n x)) k
          ∙ relation_weight t v (over_lets (each lets p)) (index_of n (relations p))
          (omega (arith, index_lt n (relations p) in_p, s.room.relations))
          ∙ ap v at ∙ agree n inQ ∙ sym (relation_bound 0 (count t) (count_grows t) q w o p r z s n k)

      let_place_lem : kind_of p n ≡ some a_let → get_or (over_lets (each lets p)) (index_of n (let_names p)) 0 ≡ lookup 0 n (names q w (count t))
      unfolding lets over
      let_place_lem k =
          let l = let_line_lem p s n k in
          let rest : Query = let_line n l.means ∷ l.later in
          ap₂ (λ ls i. get_or ls i 0)
          (ap over_lets (ap (each lets) l.here ∙ each_append lets l.earlier rest)
          ∙ map-append (λ b. over b.means) (each lets l.earlier) (each lets rest))
          l.number
          ∙ get_or_at (over_lets (each lets l.earlier)) (over l.means) (over_lets (each lets l.later)) 0 _
          (length-map (each lets l.earlier) (λ b. over b.means))
          ∙ sym (let_bound 0 (count t) (count_grows t) q w o p r z n l)

      let_named : kind_of p n ≡ some a_let → weight t v (over_lets (each lets p)) (code_of p n) ≡ lookup 0 n (names q w (count t))
      unfolding code_of kind_code let_names
      let_named k =
          let few : index_of n (let_names p) < 32 =
          omega (
            arith,
            index_lt n (let_names p) (let_in p n s k),
            length-map (each lets p) (λ (b : Bound Tree). b.called),
            s.room.lets,
          )
          in
          ap (λ x. weight t v (over_lets (each lets p)) (kind_code p n x)) k
          ∙ let_weight t v (over_lets (each lets p)) (index_of n (let_names p)) few ∙ let_place_lem k

    pub named : (p r : Query) → p ++ r ≡ q → Settled p → (n : Name) → slip p (uses_either n) ≡ none
        → weight t v (over_lets (each lets p)) (code_of p n) ≡ lookup 0 n (names q w (count t))
    unfolding slip
    named p r z s n e =
        ⊎_elim (relation_named p r z s n) (let_named p r z s n) (relation_or_let (kind_of p n) e)

    -- by the lets of the whole query it counts the same: it names none but those before
    module _ (p r : Query) (z : p ++ r ≡ q) (s : Settled p) where
      more_lets : over_lets (each lets q) ≡ over_lets (each lets p) ++ over_lets (each lets r)
      more_lets = ap over_lets (ap (each lets) (sym z) ∙ each_append lets p r) ∙ map-append (λ b. over b.means) (each lets p) (each lets r)

      let_before_lem : (n : Name) → slip p (uses_either n) ≡ none → (j : ℕ) → code_of p n ≡ 64 + j → j < length (over_lets (each lets p))
      unfolding slip code_of kind_code let_names
      let_before_lem n e j c =
          ⊎_elim
          (λ k.
          let i : code_of p n ≡ 32 + index_of n (relations p) = ap (kind_code p n) k in
          omega (arith, index_lt n (relations p) (relation_in p n s k), s.room.relations))
          (λ k.
          let i : code_of p n ≡ 64 + index_of n (let_names p) = ap (kind_code p n) k in
          omega (
            arith,
            index_lt n (let_names p) (let_in p n s k),
            length-map (each lets p) (λ (b : Bound Tree). b.called),
            length-map (each lets p) (λ b. over b.means),
          ))
          (relation_or_let (kind_of p n) e)

      pub named_in_all : (n : Name) → slip p (uses_either n) ≡ none
          → weight t v (over_lets (each lets q)) (code_of p n) ≡ lookup 0 n (names q w (count t))
      named_in_all n e =
          ap (λ ls. weight t v ls (code_of p n)) more_lets
          ∙ weight_same t v v (over_lets (each lets p) ++ over_lets (each lets r)) (over_lets (each lets p)) (code_of p n) (λ i h c. refl)
          (λ j h c. get_or-append (over_lets (each lets p)) (over_lets (each lets r)) 0 j (let_before_lem n e j c))
          ∙ named p r z s n e
