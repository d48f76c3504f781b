pub mod KeyValues
pub mod OpenKeys
