use Rattle.law_tests.proofs.reports_list_lines.needs_list_lines_are_one.Goals as goal

pub returns : goal.returns
returns c form w s v t one other same = c.list_lines_are_one.ensures form w s v t one.0 one.1 other.0 other.1 one.2 other.2 same
