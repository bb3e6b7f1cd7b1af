pub mod Left
pub mod NameNodes
pub mod NewNames
pub mod TextNodes
pub mod PartNodes
pub mod LeftOut
pub mod Repeated
pub mod ObjectTexts
