pub mod DebugLaws
pub mod RestartLaws
pub mod CauseLaws
