pub mod ActionLabels
pub mod LabelledTrees
pub mod FlatLabels
pub mod LabelTables
pub mod KeptTrees
pub mod TreeSizes
pub mod PartViews
