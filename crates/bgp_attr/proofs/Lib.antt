pub mod DecideLaws
pub mod FaultLaws
pub mod FrontLaws
pub mod ValueLaws
pub mod WalkLaws
