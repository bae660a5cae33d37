-- The words of a cause that is known.
-- Assumes nothing.
use Prim.Native.Nat.{ℕ}
use mathlib.Core.Path.{◌≡◌, sym, ap}
use mathlib.Core.List.{List}
use Rattle.print_line.specs.Puts.{Puts}
use Rattle.print_line.proofs.Putting.{puts_bytes}
use Rattle.refusals.specs.declared.Reason.{Reason}
use Rattle.refusal_texts.specs.CauseText.{cause_text}

pub cause_known : {l m : List ℕ} {at to : ℕ} (why r : Reason) → why ≡ r → Puts l at (cause_text r) to m → Puts l at (cause_text why) to m
cause_known why r e p = puts_bytes (ap cause_text (sym e)) p
