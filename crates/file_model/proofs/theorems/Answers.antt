-- The theorems and the worked examples.
use Rattle.file_model.specs.Loads.{Loads}
use Rattle.file_model.proofs.Examples.{examples}
use Rattle.file_model.proofs.LoadAccepts.{calls-accepted, opening-accepted, call-refused, call_refused_behind_opening}
use Rattle.file_model.proofs.LoadEnds.{end_missing, empty-part}
use Rattle.file_model.proofs.LoadFaults.{count_of_lines, count_of_end, refused_leaves, refused-names, accepted_names_none, empty-refused, cut-refused, more-refused, end_alone}
use Rattle.file_model.proofs.LoadParts.{part-shown}
use Rattle.file_model.proofs.LoadRuns.{from_open, from_empty, reached-kept, conserved}
use Rattle.file_model.proofs.theorems.Goals as goal

loads : Loads
loads =
    record {
      from_open = from_open;
      from_empty = from_empty;
      calls-accepted = calls-accepted;
      opening-accepted = opening-accepted;
      call-refused = call-refused;
      call_refused_behind_opening = call_refused_behind_opening;
      reached-kept = reached-kept;
      conserved = conserved;
      count_of_lines = count_of_lines;
      count_of_end = count_of_end;
      refused_leaves = refused_leaves;
      refused-names = refused-names;
      accepted_names_none = accepted_names_none;
      part-shown = part-shown;
      empty-refused = empty-refused;
      end_missing = end_missing;
      empty-part = empty-part;
      cut-refused = cut-refused;
      more-refused = more-refused;
      end_alone = end_alone;
    }

pub returns : goal.returns
returns c =
    (loads, examples)
