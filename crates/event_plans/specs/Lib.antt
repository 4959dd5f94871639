pub mod RuleValue
