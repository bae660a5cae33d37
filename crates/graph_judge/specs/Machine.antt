-- The judge over the codes of a query, for any codes: a code of an expression changes the tables that wait, and the end of a line looks at
-- them. (Document 01, "Sheet and graph bytes", last paragraph.) `proofs/Judged.antt` has the theorem that over the codes of a query the first
-- broken line and what is found of the claim are those of its judgement.
-- Assumes nothing.
use Rattle.std.specs.Prelude.{ℕ, ◌+◌, ◌-◌, Bool, cond, not, ◌&&◌, List, [], ◌∷◌, eqb, ltb, set, replicate}
use Rattle.codes.specs.Codes.{LINE, LET-LINE, NEVER-LINE, ASSUME-EMPTY, ASSUME-IRREFLEXIVE, INCLUDED, CLAIM-INCLUDE, CLAIM-EMPTY, CLAIM-IRREFLEXIVE, WITHIN-LINE, CLOSED-LINE, CLOSED-END, MOST-LETS}
use Rattle.side_items.specs.Items.{Item}
use Rattle.rows.specs.Rows.{blank, composed, NOWHERE, lowest_pair, lowest_loop}
use Rattle.graph_tables.specs.declared.JudgedSoFar.{JudgedSoFar}
use Rattle.graph_tables.specs.Listed.{relation_rows, events_with}
use Rattle.graph_tables.specs.Machine.{Judging, TABLES, top, second, operated}

-- a line ends: nothing waits, and the next line begins
abbrev pub onward : JudgedSoFar → JudgedSoFar
onward s =
    record { events = s.events; waiting = 0; lets = s.lets; line = s.line + 1; broken = s.broken; found = s.found }

-- a line ends that is broken or not; the first broken one stays
unfoldable pub broken_if : Bool → JudgedSoFar → JudgedSoFar
broken_if b s =
    onward (record {
      events = s.events;
      waiting = s.waiting;
      lets = s.lets;
      line = s.line;
      broken = cond (b && eqb s.broken 0) s.line s.broken;
      found = s.found;
    })

-- the claim ends, and this is found of it
unfoldable pub found_now : ℕ → JudgedSoFar → JudgedSoFar
found_now m s =
    onward (record { events = s.events; waiting = s.waiting; lets = s.lets; line = s.line; broken = s.broken; found = m })

-- the line of a let ends: its table is kept for it
unfoldable pub kept_let : Judging → Judging
kept_let j =
    let s = j.state in
    cond (ltb s.lets MOST-LETS)
    (record {
      mem = set j.mem s.lets (top j);
      state = onward (record {
        events = s.events;
        waiting = s.waiting;
        lets = s.lets + 1;
        line = s.line;
        broken = s.broken;
        found = s.found;
      });
    })
    (record { mem = j.mem; state = onward s })

-- relation r has a pair that does not go from T to U, the two tables that wait
unfoldable pub outside : List ℕ → Judging → ℕ → Bool
outside L j r =
    let t = relation_rows L r in
    ltb (lowest_pair t (composed (composed (second j) t) (top j)) j.state.events) NOWHERE

-- relation r lacks a pair that two of its pairs in a row lead to
unfoldable pub unclosed : List ℕ → JudgedSoFar → ℕ → Bool
unclosed L s r = let t = relation_rows L r in ltb (lowest_pair (composed t t) t s.events) NOWHERE

-- the table on top has a pair, or relates an event to itself; the lowest of each
abbrev pub any_pair : Judging → ℕ
any_pair j = lowest_pair (top j) blank j.state.events

abbrev pub any_loop : Judging → ℕ
any_loop j = lowest_loop (top j) j.state.events

-- the state behind a line on a relation, `within` or `closed`, or one with nothing to judge
unfoldable pub relation_line : List ℕ → Judging → ℕ → JudgedSoFar
relation_line L j k =
    let s = j.state in
    cond (ltb k WITHIN-LINE) (onward s)
    (cond (ltb k CLOSED-LINE) (broken_if (outside L j (k - WITHIN-LINE)) s)
    (cond (ltb k CLOSED-END) (broken_if (unclosed L s (k - CLOSED-LINE)) s) (onward s)))

-- the state behind the end of a line that is no let
unfoldable pub judged_line : List ℕ → Judging → ℕ → ℕ → JudgedSoFar
judged_line L j k x =
    let s = j.state in
    cond (eqb k NEVER-LINE) (broken_if (not (eqb (events_with L s.events x) 0)) s)
    (cond (eqb k ASSUME-EMPTY) (broken_if (ltb (any_pair j) NOWHERE) s)
    (cond (eqb k ASSUME-IRREFLEXIVE) (broken_if (ltb (any_loop j) NOWHERE) s)
    (cond (eqb k INCLUDED) s
    (cond (eqb k CLAIM-INCLUDE) (found_now (lowest_pair (second j) (top j) s.events) s)
    (cond (eqb k CLAIM-EMPTY) (found_now (any_pair j) s)
    (cond (eqb k CLAIM-IRREFLEXIVE) (found_now (any_loop j) s) (relation_line L j k)))))))

-- a code that ends a line, or the left side of an inclusion, with what it needs
unfoldable pub line_ended : List ℕ → Judging → ℕ → ℕ → Judging
line_ended L j k x = cond (eqb k LET-LINE) (kept_let j) (record { mem = j.mem; state = judged_line L j k x })

-- one code with what it needs
unfoldable pub performed : List ℕ → Judging → Item → Judging
performed L j i = cond (ltb i.code LINE) (operated L j i.code i.arg) (line_ended L j i.code i.arg)

-- the codes, one after another
unfoldable pub performed_all : List ℕ → Judging → List Item → Judging
performed_all L j [] = j
performed_all L j (i ∷ is) = performed_all L (performed L j i) is

-- before the first line, with n events
unfoldable pub beginning : ℕ → Judging
beginning n =
    record {
      mem = replicate TABLES blank;
      state = record { events = n; waiting = 0; lets = 0; line = 1; broken = 0; found = NOWHERE };
    }
