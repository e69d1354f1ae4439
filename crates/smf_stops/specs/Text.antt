-- A plan as lines.
use Rattle.std.specs.Prelude.{ℕ, ◌+◌, List, [], ◌∷◌, ◌++◌, flat_map, Option, Some, None, codes}
use Rattle.std.specs.Fmt.{decimal}
use Rattle.smf_stops.specs.declared.plan.Stop.{Stop}
use Rattle.smf_stops.specs.declared.plan.StopBatch.{StopBatch}
use Rattle.smf_stops.specs.declared.plan.StopPlan.{StopPlan}

abbrev pub line_end : List ℕ
line_end = 10 ∷ []

abbrev pub limit_text : Option ℕ → List ℕ
limit_text None = codes "no limit"
limit_text (Some seconds) = codes "at most " ++ decimal seconds ++ codes " s"

-- each name after a blank
abbrev pub name_text : Stop → List ℕ
name_text s = codes " " ++ s.name

abbrev pub names_text : List Stop → List ℕ
names_text stops = flat_map name_text stops

-- the number of a batch, its names, and for how many seconds it may take
abbrev pub batch_line : ℕ → StopBatch → List ℕ
batch_line number b =
    decimal number ++ codes " " ++ names_text b.stops ++ codes "  " ++ limit_text b.seconds ++ line_end

-- the lines of batches that come after so many others
abbrev pub lines_after : ℕ → List StopBatch → List ℕ
lines_after count [] = []
lines_after count (b ∷ bs) = batch_line (count + 1) b ++ lines_after (count + 1) bs

abbrev pub last_line : Option ℕ → List ℕ
last_line None = codes "no limit" ++ line_end
last_line (Some seconds) = codes "in all at most " ++ decimal seconds ++ codes " s" ++ line_end

abbrev pub lines_of : List StopBatch → Option ℕ → List ℕ
lines_of [] seconds = codes "nothing runs" ++ line_end
lines_of (b ∷ bs) seconds = lines_after 0 (b ∷ bs) ++ last_line seconds

unfoldable pub plan_text : StopPlan → List ℕ
plan_text p = lines_of p.batches p.seconds
