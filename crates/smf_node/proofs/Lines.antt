-- If all messages are spelled, each message that was sent is read again from its line.
use Rattle.std.proofs.Common.{◌≡◌, ℕ, Option, Some, None, IfSome, OnOk, Result, Ok, Err, refl}
use Rattle.smf_wire.specs.declared.message.Message.{Message}
use Rattle.smf_wire.specs.Grammar.{read_line}
use Rattle.smf_wire.specs.Lines.{IsSpelled, line_text}
use Rattle.smf_world.specs.Spelled.{AreSpelled}
use Rattle.smf_world.specs.Worked.{sent_at}
use Rattle.smf_world.specs.World.{World}
use Rattle.smf_world.proofs.SpelledRuns.{spelled_at}

abbrev IsReadAgain : Message → Type 0
IsReadAgain m = read_line (line_text m) ≡ Ok m

read_by : (o : Option Message) → ((m : Message) → o ≡ Some m → IsSpelled m)
    → IfSome o (λ m. IsSpelled m → IsReadAgain m) → IfSome o IsReadAgain
read_by None is read = tt
read_by (Some m) is read = read (is m refl)

pub read_where : {A E : Type 0} (w : World) (place : ℕ) (r : Result A E) → AreSpelled w
    → OnOk r (IfSome (sent_at w place) (λ m. IsSpelled m → read_line (line_text m) ≡ Ok m))
    → OnOk r (IfSome (sent_at w place) (λ m. read_line (line_text m) ≡ Ok m))
read_where w place (Ok x) spelled on = read_by (sent_at w place) (λ m e. spelled_at w place m spelled e) on
read_where w place (Err e) spelled on = tt
