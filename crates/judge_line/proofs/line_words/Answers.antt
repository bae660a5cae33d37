use mathlib.Core.List.{List, [], ◌∷◌, ◌++◌}
use Prim.Native.Nat.{ℕ}
use mathlib.Core.Path.{ap}
use Rattle.print_line.proofs.Putting.{puts_append, puts_bytes}
use Rattle.judge_line.proofs.line_words.Goals as goal

pub returns : goal.returns
returns c = puts_append c.put_text-a.ensures (puts_append c.put_decimal-b.ensures (puts_append c.put_text-c.ensures (puts_bytes (ap (λ (bs : List ℕ). bs ++ (10 ∷ [])) c.line.ensures) (puts_append c.put_text-d.ensures c.put_byte.ensures))))
