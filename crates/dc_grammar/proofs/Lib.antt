pub mod Spelled
pub mod Good
pub mod Lists
mod Choices
mod Tools
pub mod Turns
mod Forms
mod Edges
mod Dotted
mod Balance
mod Arguments
mod Rules
mod Shapes
pub mod Laws
mod PartRules
mod Meanings
mod Tables
mod TypeFirst
pub mod NamedRules
mod Open
mod Fronts
mod StmtRules
mod StmtLevels
mod DeclRules
mod DeclLevels
pub mod Wholes
mod Dangling
mod DanglingDecls
mod Past
mod Examples
mod News
mod NewForms
