-- The tables of expressions, for any codes: each code of an expression changes the tables that wait. (Document 01, "Sheet and graph bytes", last
-- paragraph.) The memory has TABLES tables: first one for each let, worked out once, at its line; and behind them those that wait, the last
-- on top. What is put where there is no room is lost, and past the memory a table is blank.
-- Assumes nothing.
use Rattle.std.specs.Prelude.{ℕ, ◌+◌, ◌-◌, cond, ◌&&◌, List, eqb, leb, ltb, get_or, set}
use Rattle.codes.specs.Codes.{TESTED, UNION, SEQUENCE, STAR, PLUS, OPTIONAL, A-RELATION, ANY, A-LET, LETS-END, MOST-LETS}
use Rattle.rows.specs.Rows.{blank, joined, composed, reflexive, rounds, diagonal}
use Rattle.graph_tables.specs.declared.JudgedSoFar.{JudgedSoFar}
use Rattle.graph_tables.specs.Listed.{relation_rows, events_with}

-- the tables in memory, and where the judge stands
pub record Judging : Type 0 where
  pub mem : List (List ℕ)
  pub state : JudgedSoFar

-- the two together
abbrev pub judging : List (List ℕ) → JudgedSoFar → Judging
judging m s = record { mem = m; state = s }

-- how many tables may wait: 67 for an expression, and the left side of an inclusion below them
abbrev pub MOST-WAITING : ℕ
MOST-WAITING = 68

-- all tables: one for each let, and those that wait
abbrev pub TABLES : ℕ
TABLES = 100

-- where w tables wait the next one goes to place NEXT + w, behind those of the lets; the one on top stands at place TOP + w, and the one below it
-- at place SECOND + w
abbrev pub NEXT : ℕ
NEXT = MOST-LETS

abbrev pub TOP : ℕ
TOP = 31

abbrev pub SECOND : ℕ
SECOND = 30

-- the table at a place
abbrev pub table_at : List (List ℕ) → ℕ → List ℕ
table_at m i = get_or m i blank

-- the table on top, and the one below it
abbrev pub top : Judging → List ℕ
top j = table_at j.mem (TOP + j.state.waiting)

abbrev pub second : Judging → List ℕ
second j = table_at j.mem (SECOND + j.state.waiting)

-- so many tables wait
abbrev pub waiting_now : JudgedSoFar → ℕ → JudgedSoFar
waiting_now s w =
    record { events = s.events; waiting = w; lets = s.lets; line = s.line; broken = s.broken; found = s.found }

-- a table more, if there is room
unfoldable pub pushed : Judging → List ℕ → Judging
pushed j t =
    cond (ltb j.state.waiting MOST-WAITING)
    (record { mem = set j.mem (NEXT + j.state.waiting) t; state = waiting_now j.state (j.state.waiting + 1) })
    j

-- the table on top changed
unfoldable pub changed_top : (List ℕ → List ℕ) → Judging → Judging
changed_top f j = record { mem = set j.mem (TOP + j.state.waiting) (f (top j)); state = j.state }

-- one table in place of the upper two
unfoldable pub merged : (List ℕ → List ℕ → List ℕ) → Judging → Judging
merged f j =
    record {
      mem = set j.mem (SECOND + j.state.waiting) (f (second j) (top j));
      state = waiting_now j.state (j.state.waiting - 1);
    }

-- a code of an expression, with what it needs: `[T]`, `|`, `;`, `*`, `+`, `?`, a relation, or a let; nothing else does anything
unfoldable pub operated : List ℕ → Judging → ℕ → ℕ → Judging
operated L j k x =
    let n = j.state.events in
    cond (eqb k TESTED) (pushed j (diagonal (events_with L n x)))
    (cond (eqb k UNION) (merged joined j)
    (cond (eqb k SEQUENCE) (merged composed j)
    (cond (eqb k STAR) (changed_top (λ t. reflexive (rounds t n n) n) j)
    (cond (eqb k PLUS) (changed_top (λ t. rounds t n n) j)
    (cond (eqb k OPTIONAL) (changed_top (λ t. reflexive t n) j)
    (cond (leb A-RELATION k && ltb k ANY) (pushed j (relation_rows L (k - A-RELATION)))
    (cond (leb A-LET k && ltb k LETS-END) (pushed j (table_at j.mem (k - A-LET))) j)))))))
