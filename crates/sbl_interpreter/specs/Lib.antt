-- what the functions inside the crate promise each other; no public contract depends on these
pub mod Inner
-- saved cursors in six bytes; no public contract depends on these
pub mod PackedCursors
