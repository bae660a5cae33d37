-- Building the table of an expression from its codes, one after another, with a stack of parts. (Document 01, "Standings"; the codes are those
-- of the crate `codes`.) A part is a run of occurrences: where it begins, and the set of the atoms that are words of it. It is defined for
-- any codes: one that builds nothing does nothing, and occurrences past 64 are not counted.
-- Assumes nothing.
use Rattle.std.specs.Prelude.{ℕ, ◌+◌, ◌-◌, ◌^◌, min, true, false, cond, ◌&&◌, List, [], eqb, leb, ltb, get_or, set}
use Rattle.std.specs.Int.Bits.{bit_and, bit_or}
use Rattle.codes.specs.Codes.{TESTED, UNION, SEQUENCE, STAR, PLUS, OPTIONAL, A-RELATION, ANY}
use Rattle.side_atoms.specs.Atoms.{all_atoms}
use Rattle.side_tables.specs.InPlace.{added, sequenced, iterated}
use Rattle.side_stack.specs.Stack.{top_part, under_part, push_part, used_in, stack_in}
use Rattle.side_stack.specs.declared.Part.{Part}
use Rattle.memory.specs.Memory.{words}
use Rattle.side_tables.specs.Layout.{NULL, TABLE}

-- the table so far, how many occurrences it has, and the parts that wait, the last on top
pub record Machine : Type 0 where
  pub table : List ℕ
  pub used : ℕ
  pub stack : List Part

-- the machine that the memory holds
unfoldable pub machine_in : List ℕ → List ℕ → Machine
machine_in table parts = record { table = table; used = used_in parts; stack = stack_in parts }

-- a test: a part without occurrences, whose words are the atoms of the set x
unfoldable pub given : ℕ → Machine → Machine
given x m =
    record { table = m.table; used = m.used; stack = push_part (record { low = m.used; null = x; looped = true }) m.stack }

-- a new occurrence: at the atoms of f it may be first, at those of l last, at those of g after itself; it reads the relations of s
unfoldable pub fresh : ℕ → ℕ → ℕ → ℕ → Machine → Machine
fresh f l g s m =
    record {
      table = added m.used f l g s m.table;
      used = min (m.used + 1) 64;
      stack = push_part (record { low = m.used; null = 0; looped = false }) m.stack;
    }

-- `|`: the two parts on top are one
unfoldable pub united : Machine → Machine
united m =
    let a = top_part m.stack in
    let b = top_part (under_part m.stack) in
    record {
      table = m.table;
      used = m.used;
      stack = push_part (record { low = b.low; null = bit_or b.null a.null; looped = false }) (under_part (under_part m.stack));
    }

-- `;`
unfoldable pub in_order : Machine → Machine
in_order m =
    let a = top_part m.stack in
    let b = top_part (under_part m.stack) in
    record {
      table = sequenced b.low a.low m.used b.null a.null m.table;
      used = m.used;
      stack = push_part (record { low = b.low; null = bit_and b.null a.null; looped = false }) (under_part (under_part m.stack));
    }

-- `+`, which of a looped part is the part itself
unfoldable pub again : Machine → Machine
again m =
    let a = top_part m.stack in
    cond a.looped m
    (record {
      table = iterated a.low m.used m.table;
      used = m.used;
      stack = push_part (record { low = a.low; null = a.null; looped = true }) (under_part m.stack);
    })

-- `?`
unfoldable pub optional : Machine → Machine
optional m =
    let a = top_part m.stack in
    record {
      table = m.table;
      used = m.used;
      stack = push_part (record { low = a.low; null = all_atoms; looped = a.looped }) (under_part m.stack);
    }

-- one step of whichever relation, any number of times
unfoldable pub any_star : Machine → Machine
any_star m = optional (again (fresh all_atoms all_atoms 0 65535 m))

-- One code. `rels` has for relation r at place r the atoms at which its step may start, at 16 + r those at which it may stop, and at 32 + r
-- those at which it may follow itself; x is the set of a bracketed test.
unfoldable pub stepped : List ℕ → ℕ → ℕ → Machine → Machine
stepped rels k x m =
    cond (eqb k TESTED) (given x m)
    (cond (eqb k UNION) (united m)
    (cond (eqb k SEQUENCE) (in_order m)
    (cond (eqb k STAR) (optional (again m))
    (cond (eqb k PLUS) (again m)
    (cond (eqb k OPTIONAL) (optional m)
    (cond (eqb k ANY) (fresh all_atoms all_atoms 0 65535 m)
    (cond (leb A-RELATION k && ltb k ANY) (fresh (get_or rels (k - A-RELATION) 0) (get_or rels (k - 16) 0) (get_or rels k 0) (2 ^ (k - A-RELATION)) m) m)))))))

-- nothing built yet
unfoldable pub nothing_built : Machine
nothing_built = record { table = words TABLE (λ i. 0); used = 0; stack = [] }

-- the table in the end: it also tells the atoms that are words of the part on top
unfoldable pub told_table : Machine → List ℕ
told_table m = set m.table NULL (top_part m.stack).null
