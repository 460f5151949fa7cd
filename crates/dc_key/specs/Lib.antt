pub mod KeyTexts
pub mod KeyReading
