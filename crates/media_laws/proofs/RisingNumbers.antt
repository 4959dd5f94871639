pub mod DialogRules
pub mod RaisedCalls
pub mod RaisedRows
pub mod Raising
