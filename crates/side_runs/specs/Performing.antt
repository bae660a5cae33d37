-- What a machine makes of the codes of a line, where a let stands for what `call` makes of it. (Document 01, "Words": lets are expanded.)
-- Assumes nothing.
use Rattle.std.specs.Prelude.{ℕ, cond, ◌&&◌, List, [], ◌∷◌, leb, ltb}
use Rattle.codes.specs.Codes.{A-LET, LETS-END, LINE}
use Rattle.side_parts.specs.Machine.{Machine, stepped}
use Rattle.side_items.specs.Items.{Item}

-- one item, where `call` builds a let from the place where its line starts
unfoldable pub performed : (ℕ → Machine → Machine) → List ℕ → Item → Machine → Machine
performed call rels x m =
    cond (leb A-LET x.code && ltb x.code LETS-END) (call x.arg m) (stepped rels x.code x.arg m)

-- the items up to the end of the line
unfoldable pub perform : (ℕ → Machine → Machine) → List ℕ → List Item → Machine → Machine
perform call rels [] m = m
perform call rels (x ∷ xs) m = cond (leb LINE x.code) m (perform call rels xs (performed call rels x m))
