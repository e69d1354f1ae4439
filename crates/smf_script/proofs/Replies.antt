-- The deed of a line, by the answer of children.
use Rattle.std.proofs.Common.{◌≡◌, ℕ, List, ◌++◌, Bool, false, is_ok, Result, Ok, Err, IfOk, OnOk, refl, ap, subst}
use Rattle.smf_admin.specs.declared.instances.Found.{Found}
use Rattle.smf_admin.specs.Instances.{found_of}
use Rattle.smf_edge.specs.declared.fault.KidsFault.{KidsFault}
use Rattle.smf_edge.specs.Answers.{Seen, Skills}
use Rattle.smf_node.specs.declared.fault.NodeFault.{NodeFault}
use Rattle.smf_script.specs.Asks.{Ask, HadMemory, HasAnswered, HasAsked, answer_text, deed_of_answer}
use Rattle.smf_script.specs.Lines.{AskedBy, HasAskedOf, HasPut, deed}
use Rattle.smf_script.specs.Session.{failure_deed}
use Rattle.smf_world.specs.Schedule.{Progress}

-- the line says the answer of children
pub said_by : (k : Skills) (asked ask : Ask) (p : Progress) (old new : Seen) (answer : Result (Unit {0}) KidsFault)
    (b b' : List ℕ) (r : Result Bool NodeFault)
    → asked ≡ ask → HasAnswered k asked answer old new → IfOk r (λ fine. fine ≡ is_ok answer)
    → OnOk r (b' ≡ b ++ answer_text answer) → OnOk r (HadMemory answer)
    → IfOk r (λ fine. HasPut (λ text. HasAsked k ask (deed_of_answer p) old new (deed p fine text)) b b')
said_by k asked ask p old new answer b b' (Ok fine) is a flag put had =
    record {
      text = answer_text answer;
      put = put;
      is = record {
        answer = answer;
        answered = subst (λ x. HasAnswered k x answer old new) is a;
        had_memory = had;
        gives = ap (λ x. deed p x (answer_text answer)) flag;
      };
    }
said_by k asked ask p old new answer b b' (Err e) is a flag put had = tt

-- a word that matches none, or several
pub refused_by : (p : Progress) (deed_of_answer : List ℕ) (old : Seen) (b b' : List ℕ) (r : Result Bool NodeFault)
    → IfOk r (λ fine. fine ≡ false) → OnOk r (b' ≡ b ++ deed_of_answer)
    → IfOk r (λ fine. HasPut (λ text. (deed p fine text ≡ failure_deed p deed_of_answer) × (old ≡ old)) b b')
refused_by p deed_of_answer old b b' (Ok fine) flag put =
    record { text = deed_of_answer; put = put; is = (ap (λ x. deed p x deed_of_answer) flag, refl) }
refused_by p deed_of_answer old b b' (Err e) flag put = tt

pub asked_by : (k : Skills) (p : Progress) (ask : ℕ → Ask) (word : List ℕ) (old new : Seen) (found : Found)
    (b b' : List ℕ) (r : Result Bool NodeFault)
    → found ≡ found_of p.world.now.names word
    → IfOk r (λ fine. HasPut (λ text. HasAskedOf k p ask found old new (deed p fine text)) b b')
    → IfOk r (λ fine. HasPut (λ text. AskedBy k p ask word old new (deed p fine text)) b b')
unfolding AskedBy
asked_by k p ask word old new found b b' r is h =
    subst (λ f. IfOk r (λ fine. HasPut (λ text. HasAskedOf k p ask f old new (deed p fine text)) b b')) is h
