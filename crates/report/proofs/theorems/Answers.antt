-- The theorems and the worked examples.
use Rattle.report.proofs.Examples.{figures-apart, position-apart, paper_printed, empty_file_printed, end_alone_printed, just-fits, short_by_one}
use Rattle.report.proofs.FiguresFit.{totals-fit, positions-fit}
use Rattle.report.proofs.StatementLengths.{totals-length, position-length, refusal_length, book-length, statement-fits, empty_prints_nothing}
use Rattle.report.proofs.theorems.Goals as goal

pub returns : goal.returns
returns c =
    record {
      totals-length = totals-length;
      position-length = position-length;
      refusal_length = refusal_length;
      book-length = book-length;
      statement-fits = statement-fits;
      empty_prints_nothing = empty_prints_nothing;
      totals-fit = totals-fit;
      positions-fit = positions-fit;
      figures-apart = figures-apart;
      position-apart = position-apart;
      paper_printed = paper_printed;
      empty_file_printed = empty_file_printed;
      end_alone_printed = end_alone_printed;
      just-fits = just-fits;
      short_by_one = short_by_one;
    }
