pub mod Syntaxes
pub mod Meaning
pub mod Grammar
pub mod SyntaxFault
pub mod Source
pub mod StatementView
pub mod PartsView
pub mod Readers
