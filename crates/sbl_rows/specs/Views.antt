-- What the code's values stand for, passed on from one place. Declares nothing.
pub use Rattle.sbl_rows.specs.Changes.{view_change, view_changes}
pub use Rattle.sbl_rows.specs.Classes.{texts_of, view_stem_class, view_stem_classes}
pub use Rattle.sbl_rows.specs.Counting.{view_families}
pub use Rattle.sbl_rows.specs.Families.{view_result, view_results, view_words}
pub use Rattle.sbl_rows.specs.Grouping.{view_pair, view_pairs}
pub use Rattle.sbl_rows.specs.KnownOutcomes.{has_text, known_outcome}
pub use Rattle.sbl_rows.specs.Rows.{view_outcome, view_row, view_rows}
